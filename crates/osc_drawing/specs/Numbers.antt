-- Numbers that calls carry, in 65,536ths, rounded down, within 2^47, and 2^47 more.
use Rattle.std.specs.Prelude.{ℕ, ◌+◌, ◌-◌, ◌*◌, ◌/◌, ◌%◌, ◌^◌, ◌==◌, min, max, Bool, nat_le, nat_lt}
use Rattle.std.specs.Prelude.{if◌then◌else◌, List, [], ◌∷◌, ◌++◌, take, Option, Some, None}
use Rattle.std.specs.Fmt.{decimal}

-- where 0 and 1 stand
abbrev pub zero_at : ℕ
zero_at = 140_737_488_355_328

abbrev pub one_at : ℕ
one_at = 140_737_488_420_864

-- the number of an integer by its 32 bits
abbrev pub of_integer : ℕ → ℕ
of_integer bits = (bits + 2_147_483_648) % 4_294_967_296 * 65_536

-- how far up an integer of these 64 bits stands from the least of 64 bits
abbrev pub raised : ℕ → ℕ
raised bits = (bits + 9_223_372_036_854_775_808) % 18_446_744_073_709_551_616

-- its number
abbrev pub of_long : ℕ → ℕ
of_long bits = min (raised bits - 9_223_372_034_707_292_160) 4_294_967_296 * 65_536

-- a part of 2^shift, up or down from 0
abbrev pub of_parts : Bool → ℕ → ℕ → ℕ
of_parts below mantissa shift =
    if below
    then zero_at - min ((mantissa + (2 ^ shift - 1)) / 2 ^ shift) zero_at
    else zero_at + min (mantissa / 2 ^ shift) zero_at

-- the exponent and the mantissa of a float by its 32 bits (IEEE 754, "Binary interchange formats")
abbrev pub float_exponent : ℕ → ℕ
float_exponent bits = bits / 8_388_608 % 256

abbrev pub float_mantissa : ℕ → ℕ
float_mantissa bits =
    (bits % 8_388_608 + (if float_exponent bits == 0 then 0 else 8_388_608)) * 536_870_912

-- its number, unless it is infinite or none
abbrev pub of_float : ℕ → Option ℕ
of_float bits =
    if float_exponent bits == 255 then None
    else Some (of_parts (nat_le 2_147_483_648 bits) (float_mantissa bits)
    (min (163 - max (float_exponent bits) 1) 63))

-- the same of a double by its 64 bits
abbrev pub double_exponent : ℕ → ℕ
double_exponent bits = bits / 4_503_599_627_370_496 % 2048

abbrev pub double_mantissa : ℕ → ℕ
double_mantissa bits =
    bits % 4_503_599_627_370_496
    + (if double_exponent bits == 0 then 0 else 4_503_599_627_370_496)

abbrev pub of_double : ℕ → Option ℕ
of_double bits =
    if double_exponent bits == 2047 then None
    else Some (of_parts (nat_le 9_223_372_036_854_775_808 bits) (double_mantissa bits)
    (min (1059 - max (double_exponent bits) 1) 63))

-- how far from 0 a number is, in thousandths, to the nearest
abbrev pub thousandths : ℕ → ℕ
thousandths number = (((number - zero_at) + (zero_at - number)) * 1000 + 32_768) / 65_536

-- the last digit
abbrev pub digit : ℕ → ℕ
digit number = 48 + number % 10

-- a point and the digits of a part of 1,000, without zeros at their end
abbrev pub part_words : ℕ → List ℕ
part_words part =
    if part == 0 then [] else
    if part % 100 == 0 then 46 ∷ digit (part / 100) ∷ [] else
    if part % 10 == 0 then 46 ∷ digit (part / 100) ∷ digit (part / 10) ∷ []
    else 46 ∷ digit (part / 100) ∷ digit (part / 10) ∷ digit part ∷ []

abbrev pub sign_words : ℕ → List ℕ
sign_words number = if nat_lt number zero_at then 45 ∷ [] else []

-- a number as a decimal, of which at most 6 characters stand there
abbrev pub number_words : ℕ → List ℕ
number_words number =
    take 6 (sign_words number ++ decimal (thousandths number / 1000)
    ++ part_words (thousandths number % 1000))
