-- The words of arguments, read.
use Rattle.std.specs.Prelude.{ℕ, zero, suc, ◌+◌, ◌-◌, ◌*◌, ◌^◌, Bool, false, not, ◌&&◌, ◌==◌}
use Rattle.std.specs.Prelude.{nat_le, if◌then◌else◌, ℤ, pos, negsuc, List, [], ◌∷◌, length, fold}
use Rattle.std.specs.Prelude.{Option, Some, None, option_map, option_and_then}
use Rattle.std.specs.List.{list_all}
use Rattle.std.specs.Char.{is_ascii_digit}
use Rattle.std.specs.Int.{w32, w64, from_be_bytes}
use Rattle.std.specs.Result.{result_ok}
use Rattle.hex.specs.Hex.{decode_of, decode_sized}
use Rattle.osc_message.specs.Messages.{Argument, integer, float, text, content, long, time, double}
use Rattle.osc_message.specs.Messages.{symbol, character, rgba, midi, true_, false_, nil, infinitum}
use Rattle.osc_message.specs.Messages.{array_start, array_end}

-- a number in decimal: digits, the first of more than one no zero
abbrev pub is_decimal : List ℕ → Bool
is_decimal [] = false
is_decimal (digit ∷ []) = is_ascii_digit digit
is_decimal (digit ∷ next ∷ digits) =
    not (digit == 48) && list_all is_ascii_digit (digit ∷ next ∷ digits)

-- a number, and one more digit
abbrev pub with_digit : ℕ → ℕ → ℕ
with_digit number digit = 10 * number + (digit - 48)

-- the number that digits are
abbrev pub number_in : List ℕ → ℕ
number_in digits = fold with_digit 0 digits

-- a number in decimal of at most this
abbrev pub natural_read : ℕ → List ℕ → Option ℕ
natural_read most word =
    if is_decimal word && nat_le (number_in word) most then Some (number_in word) else None

-- a number below 0 has no zero after its `-`
abbrev pub below_zero : ℕ → Option ℤ
below_zero number = if number == 0 then None else Some (negsuc (number - 1))

-- a whole number with this many below zero, and as many from zero on
abbrev pub signed_read : ℕ → List ℕ → Option ℤ
signed_read bound [] = None
signed_read bound (first ∷ word) =
    if first == 45 then option_and_then below_zero (natural_read bound word)
    else option_map pos (natural_read (bound - 1) (first ∷ word))

-- 8 hexadecimal digits
abbrev pub word_read : List ℕ → Option ℕ
word_read digits = option_map (from_be_bytes w32) (result_ok (decode_sized digits 4))

-- 16 hexadecimal digits
abbrev pub tag_read : List ℕ → Option ℕ
tag_read digits = option_map (from_be_bytes w64) (result_ok (decode_sized digits 8))

-- a byte from `!` to `~` that isn't a backslash
abbrev pub is_plain : ℕ → Bool
is_plain byte = nat_le 33 byte && nat_le byte 126 && not (byte == 92)

-- a byte but 0
abbrev pub unless_zero : List ℕ → Option ℕ
unless_zero (byte ∷ []) = if byte == 0 then None else Some byte
unless_zero _ = None

-- the byte of two digits that isn't 0
abbrev pub pair_read : ℕ → ℕ → Option ℕ
pair_read high low = option_and_then unless_zero (result_ok (decode_of (high ∷ low ∷ [])))

-- an `x`, two digits of a byte that isn't 0, and what follows them
abbrev pub escape_read : List ℕ → Option (ℕ × List ℕ)
escape_read (first ∷ high ∷ low ∷ rest) =
    if first == 120
    then option_map (λ byte. (byte, rest)) (pair_read high low) else None
escape_read _ = None

-- the first byte of a text, and what follows it: a plain byte as it is, any other as `\\x` and two
-- digits
abbrev pub first_byte : List ℕ → Option (ℕ × List ℕ)
first_byte [] = None
first_byte (byte ∷ rest) =
    if byte == 92 then escape_read rest else
    if is_plain byte then Some (byte, rest) else None

-- the bytes of a text of at most so many
abbrev pub text_within : ℕ → List ℕ → Option (List ℕ)
text_within most [] = Some []
text_within zero (byte ∷ rest) = None
text_within (suc most) (byte ∷ rest) = option_and_then
    (λ cut. option_map (λ bytes. cut.0 ∷ bytes) (text_within most cut.1))
    (first_byte (byte ∷ rest))

abbrev pub text_read : List ℕ → Option (List ℕ)
text_read word = text_within (length word) word

-- an argument of a tag alone
abbrev pub bare_read : ℕ → Option Argument
bare_read tag =
    if tag == 84 then Some true_ else if tag == 70 then Some false_ else
    if tag == 78 then Some nil else if tag == 73 then Some infinitum else
    if tag == 91 then Some array_start else if tag == 93 then Some array_end else
    None

-- a number of a tag and, after a colon, its digits
abbrev pub number_read : ℕ → List ℕ → Option Argument
number_read tag value =
    if tag == 105 then option_map integer (signed_read (2 ^ 31) value) else
    if tag == 104 then option_map long (signed_read (2 ^ 63) value) else
    if tag == 102 then option_map float (word_read value) else
    if tag == 99 then option_map character (word_read value) else
    if tag == 114 then option_map rgba (word_read value) else
    if tag == 109 then option_map midi (word_read value) else
    if tag == 116 then option_map time (tag_read value) else
    if tag == 100 then option_map double (tag_read value) else
    None

-- an argument of a tag and, after a colon, its value
abbrev pub value_read : ℕ → List ℕ → Option Argument
value_read tag value =
    if tag == 98 then option_map content (result_ok (decode_of value)) else
    if tag == 115 then option_map text (text_read value) else
    if tag == 83 then option_map symbol (text_read value) else
    number_read tag value

-- the argument of a word
abbrev pub argument_read : List ℕ → Option Argument
argument_read [] = None
argument_read (tag ∷ []) = bare_read tag
argument_read (tag ∷ colon ∷ value) = if colon == 58 then value_read tag value else None

-- the arguments of words, where each is one
abbrev pub arguments_read : List (List ℕ) → Option (List Argument)
arguments_read [] = Some []
arguments_read (word ∷ words) = option_and_then
    (λ argument. option_map (λ arguments. argument ∷ arguments) (arguments_read words))
    (argument_read word)
