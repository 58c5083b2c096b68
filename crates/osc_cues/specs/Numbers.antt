-- Numbers, read from words. A fault is at a place that is given.
use Rattle.std.specs.Prelude.{ℕ, ◌-◌, ◌^◌, ◌==◌, ◌&&◌, ◌||◌, Bool, true, false, not, nat_le, nat_lt}
use Rattle.std.specs.Prelude.{if◌then◌else◌, min, ℤ, pos, negsuc, List, [], ◌∷◌, length, Option}
use Rattle.std.specs.Prelude.{Some, None, option_map, Result, Ok, to_bits}
use Rattle.std.specs.List.{list_all}
use Rattle.std.specs.Char.{is_ascii_digit}
use Rattle.std.specs.Int.{w32, w64, from_be_bytes}
use Rattle.std.specs.Result.{result_ok}
use Rattle.std.specs.Str.Parse.{digits_value}
use Rattle.std.specs.Float.{Float, float_is_finite}
use Rattle.std.specs.Float.Parse.{parse_float}
use lib.Ieee.{Format, binary32, binary64}
use Rattle.hex.specs.Hex.{decode_sized}
use Rattle.osc_cues.specs.declared.fault.Fault.{Fault}
use Rattle.osc_cues.specs.declared.fault.Fault.TheVariants.{NotNumber, NotWhole, LeadingZero}
use Rattle.osc_cues.specs.declared.fault.Fault.TheVariants.{LongInt, TooLong, LargeFloat}
use Rattle.osc_cues.specs.declared.fault.Fault.TheVariants.{LargeDouble}
use Rattle.osc_cues.specs.declared.fault.WordFault.{WordFault}
use Rattle.osc_cues.specs.Faults.{wrong_at}

-- digits alone, one at least
abbrev pub are_digits : List ℕ → Bool
are_digits word = nat_lt 0 (length word) && list_all is_ascii_digit word

-- a minus stands first
abbrev pub has_minus : List ℕ → Bool
has_minus [] = false
has_minus (first ∷ rest) = first == 45

-- without that minus
abbrev pub without_minus : List ℕ → List ℕ
without_minus [] = []
without_minus (first ∷ rest) = if first == 45 then rest else first ∷ rest

-- digits, and before them a minus or nothing
abbrev pub is_whole : List ℕ → Bool
is_whole word = are_digits (without_minus word)

-- a zero stands before other digits
abbrev pub has_zero_first : List ℕ → Bool
has_zero_first [] = false
has_zero_first (first ∷ []) = false
has_zero_first (first ∷ next ∷ rest) = first == 48

-- the number that digits write, or a number of 64 bits that is larger than all that are needed
abbrev pub size_of : List ℕ → ℕ
size_of digits = min (2 ^ 64 - 1) (digits_value 10 digits)

-- a number, below zero or not
abbrev pub signed : Bool → ℕ → ℤ
signed below number =
    if below then (if number == 0 then pos 0 else negsuc (number - 1)) else pos number

-- it lies among so many numbers below zero, and as many from zero on
abbrev pub is_within : ℕ → Bool → ℕ → Bool
is_within bound below number = if below then nat_le number bound else nat_lt number bound

-- a number of 32 bits
abbrev pub int_of : ℕ → Bool → ℕ → Result ℤ WordFault
int_of at below number =
    if is_within (2 ^ 31) below number then Ok (signed below number) else
    if is_within (2 ^ 63) below number then wrong_at at LongInt else wrong_at at TooLong

-- a number of 64 bits
abbrev pub long_of : ℕ → Bool → ℕ → Result ℤ WordFault
long_of at below number =
    if is_within (2 ^ 63) below number then Ok (signed below number) else wrong_at at TooLong

-- what is wrong with a word as a whole number, but for its size
abbrev pub whole_fault : List ℕ → Option Fault
whole_fault word =
    if is_whole word
    then (if has_zero_first (without_minus word) then Some LeadingZero else None)
    else Some NotWhole

abbrev pub int_unless : Option Fault → ℕ → List ℕ → Result ℤ WordFault
int_unless None at word = int_of at (has_minus word) (size_of (without_minus word))
int_unless (Some fault) at word = wrong_at at fault

-- a whole number of 32 bits
abbrev pub int_read : ℕ → List ℕ → Result ℤ WordFault
int_read at word = int_unless (whole_fault word) at word

abbrev pub long_unless : Option Fault → ℕ → List ℕ → Result ℤ WordFault
long_unless None at word = long_of at (has_minus word) (size_of (without_minus word))
long_unless (Some fault) at word = wrong_at at fault

-- a whole number of 64 bits
abbrev pub long_read : ℕ → List ℕ → Result ℤ WordFault
long_read at word = long_unless (whole_fault word) at word

-- a digit, a point, an `e` or a sign
abbrev pub is_number_byte : ℕ → Bool
is_number_byte byte =
    is_ascii_digit byte || byte == 46 || byte == 101 || byte == 69 || byte == 43 || byte == 45

-- no plus stands first
abbrev pub has_no_plus : List ℕ → Bool
has_no_plus [] = true
has_no_plus (first ∷ rest) = not (first == 43)

-- such bytes alone, and no plus first; a number in decimal has no others
abbrev pub is_plain_number : List ℕ → Bool
is_plain_number word = has_no_plus word && list_all is_number_byte word

-- the bits of a finite number
abbrev pub bits_of : Format → Fault → ℕ → Option Float → Result ℕ WordFault
bits_of format large at None = wrong_at at NotNumber
bits_of format large at (Some number) =
    if float_is_finite number then Ok (to_bits format number) else wrong_at at large

-- the bits of the number nearest to a decimal
abbrev pub decimal_read : Format → Fault → ℕ → List ℕ → Result ℕ WordFault
decimal_read format large at word =
    if is_plain_number word then bits_of format large at (parse_float format word)
    else wrong_at at NotNumber

-- the bits of the float nearest to a decimal
abbrev pub decimal_float : ℕ → List ℕ → Result ℕ WordFault
decimal_float at word = decimal_read binary32 LargeFloat at word

-- of the double nearest to it
abbrev pub decimal_double : ℕ → List ℕ → Result ℕ WordFault
decimal_double at word = decimal_read binary64 LargeDouble at word

-- 8 hexadecimal digits
abbrev pub eight_read : List ℕ → Option ℕ
eight_read digits = option_map (from_be_bytes w32) (result_ok (decode_sized digits 4))

-- 16 hexadecimal digits
abbrev pub sixteen_read : List ℕ → Option ℕ
sixteen_read digits = option_map (from_be_bytes w64) (result_ok (decode_sized digits 8))

abbrev pub float_or : Option ℕ → ℕ → List ℕ → Result ℕ WordFault
float_or (Some bits) at word = Ok bits
float_or None at word = decimal_float at word

-- the bits of a float: 8 hexadecimal digits, or a decimal
abbrev pub float_read : ℕ → List ℕ → Result ℕ WordFault
float_read at word = float_or (eight_read word) at word

abbrev pub double_or : Option ℕ → ℕ → List ℕ → Result ℕ WordFault
double_or (Some bits) at word = Ok bits
double_or None at word = decimal_double at word

-- the bits of a double: 16 hexadecimal digits, or a decimal
abbrev pub double_read : ℕ → List ℕ → Result ℕ WordFault
double_read at word = double_or (sixteen_read word) at word
