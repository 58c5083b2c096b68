-- What is cut off the front of a text.
use Rattle.std.specs.Prelude.{ℕ, ◌-◌, ◌*◌, ◌^◌, ◌==◌, ◌&&◌, Bool, not, nat_le}
use Rattle.std.specs.Prelude.{if◌then◌else◌, List, [], ◌∷◌, length, take, drop, position, codes}
use Rattle.std.specs.Prelude.{Option, Some, None, option_map, nat_eq}
use Rattle.std.specs.List.{starts_with}
use Rattle.std.specs.Char.{is_ascii_digit}
use Rattle.std.specs.Str.Parse.{digits_value}
use Rattle.osc_cues.specs.Numbers.{are_digits}

-- the byte, and what follows it
abbrev pub byte_cut : ℕ → List ℕ → Option (List ℕ)
byte_cut byte [] = None
byte_cut byte (first ∷ rest) = if first == byte then Some rest else None

-- the number that so many digits write, and what follows them
abbrev pub digits_cut : ℕ → List ℕ → Option (ℕ × List ℕ)
digits_cut count text =
    if nat_le count (length text) && are_digits (take count text)
    then Some (digits_value 10 (take count text), drop count text) else None

abbrev pub is_other : ℕ → Bool
is_other byte = not (is_ascii_digit byte)

abbrev pub place_or : List ℕ → Option ℕ → ℕ
place_or text (Some place) = place
place_or text None = length text

-- how many digits a text begins with
abbrev pub digits_first : List ℕ → ℕ
digits_first text = place_or text (position is_other text)

-- the number of all digits that a text begins with, from one to so many, and what follows them
abbrev pub number_cut : ℕ → List ℕ → Option (ℕ × List ℕ)
number_cut most text =
    if nat_le (digits_first text) most then digits_cut (digits_first text) text else None

-- digits after a point, as a number of the last place that there may be
abbrev pub part_cut : ℕ → List ℕ → Option (ℕ × List ℕ)
part_cut most text =
    option_map (λ cut. (cut.0 * 10 ^ (most - digits_first text), cut.1)) (number_cut most text)

-- a point and digits after it, or nothing
abbrev pub fraction_cut : ℕ → List ℕ → Option (ℕ × List ℕ)
fraction_cut most text =
    if starts_with nat_eq text (codes ".") then part_cut most (drop 1 text) else Some (0, text)
