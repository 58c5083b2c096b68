-- Calls that are counted from 1, of which some are to fail.
use Rattle.std.specs.Prelude.{ℕ, ◌+◌, ◌-◌, ◌^◌, Bool, ◌==◌, min, List}
use Rattle.std.specs.List.{list_any}

-- how many calls were made so far, and the numbers of those that fail
pub record CallsToCome : Type 0 where
  pub made : ℕ
  pub fails : List ℕ

-- the number of the next call, where the count stands still at its last value
abbrev pub next_number : CallsToCome → ℕ
next_number calls = min (calls.made + 1) (2 ^ 64 - 1)

-- the next call fails: its number stands in the list
abbrev pub fails_next : CallsToCome → Bool
fails_next calls = list_any (λ number. number == next_number calls) calls.fails

-- one call later, with the same list
abbrev pub one_more : CallsToCome → CallsToCome
one_more calls = record calls { made = next_number calls }
