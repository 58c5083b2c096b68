-- What a method keeps of what it was told.
use Rattle.std.specs.Prelude.{ℕ, ◌-◌, List, ◌++◌, length, drop, slice_get, Option}
use Rattle.std.specs.Option.{option_map, option_map_or, unwrap_or}

-- what no call of a method changes: how many bytes it keeps at most, its name, and the mark of each
-- of its outlets, in order
pub record Fixed : Type 0 where
  pub most : ℕ
  pub name : List ℕ
  pub outlets : List (List ℕ)

-- the last bytes, at most so many
abbrev pub last_of : ℕ → List ℕ → List ℕ
last_of keep bytes = drop (length bytes - keep) bytes

-- what a method has heard after a call
abbrev pub after_call : ℕ → List ℕ → Option (List ℕ) → Option (List ℕ)
after_call keep call heard = option_map (λ bytes. last_of keep (bytes ++ call)) heard

-- the byte in a place, counted from the oldest; 0 where nothing is told of that place
abbrev pub byte_heard : Option (List ℕ) → ℕ → ℕ
byte_heard heard k = option_map_or (λ bytes. unwrap_or (slice_get bytes k) 0) heard 0
