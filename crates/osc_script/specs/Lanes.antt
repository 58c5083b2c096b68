-- The number of a lane.
use Rattle.osc_script.specs.declared.lane.TheConstants.{MAX_LANES}
use Rattle.std.specs.Prelude.{ℕ, ◌+◌, ◌-◌, ◌*◌, ◌==◌, nat_lt, if◌then◌else◌, List, [], ◌∷◌, Option}
use Rattle.std.specs.Prelude.{Some, None}
use Rattle.std.specs.Char.{is_ascii_digit}

-- the number of a decimal digit
abbrev pub digit_of : ℕ → Option ℕ
digit_of byte = if is_ascii_digit byte then Some (byte - 48) else None

-- the number of two digits
abbrev pub two_digits : Option ℕ → Option ℕ → Option ℕ
two_digits None ones = None
two_digits (Some tens) None = None
two_digits (Some tens) (Some ones) = Some (10 * tens + ones)

-- a number of at most two digits, of which the first of two is no zero
abbrev pub number_of : List ℕ → Option ℕ
number_of [] = None
number_of (ones ∷ []) = digit_of ones
number_of (tens ∷ ones ∷ []) =
    if tens == 48 then None else two_digits (digit_of tens) (digit_of ones)
number_of (first ∷ second ∷ third ∷ more) = None

-- one of the lanes
abbrev pub within_lanes : Option ℕ → Option ℕ
within_lanes None = None
within_lanes (Some number) = if nat_lt number MAX_LANES then Some number else None

-- the lane of this number in decimal without a leading zero
abbrev pub lane_of : List ℕ → Option ℕ
lane_of word = within_lanes (number_of word)
