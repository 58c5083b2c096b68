-- The words of arguments, read.
use Rattle.std.specs.Prelude.{ℕ, ◌+◌, ◌==◌, ◌&&◌, ◌||◌, Bool, false, nat_le, if◌then◌else◌, List}
use Rattle.std.specs.Prelude.{[], ◌∷◌}
use Rattle.std.specs.Prelude.{take, drop, position, codes, bytes_eq, Option, Some, None}
use Rattle.std.specs.Prelude.{Result, Ok}
use Rattle.std.specs.Char.{is_ascii_digit}
use Rattle.std.specs.Result.{result_ok}
use Rattle.hex.specs.Hex.{decode_of}
use Rattle.osc_message.specs.Messages.{Argument, integer, float, text, content, long, time, double}
use Rattle.osc_message.specs.Messages.{symbol, character, rgba, midi, true_, false_, nil, infinitum}
use Rattle.osc_message.specs.Messages.{array_start, array_end}
use Rattle.osc_cues.specs.declared.fault.Fault.{Fault}
use Rattle.osc_cues.specs.declared.fault.Fault.TheVariants.{NotArgument, Comma, NotBlob}
use Rattle.osc_cues.specs.declared.fault.Fault.TheVariants.{NotCharacter, NotEight, NotSixteen}
use Rattle.osc_cues.specs.declared.fault.Fault.TheVariants.{NoType}
use Rattle.osc_cues.specs.declared.fault.WordFault.{WordFault}
use Rattle.osc_cues.specs.Faults.{wrong_at, made}
use Rattle.osc_cues.specs.Numbers.{are_digits, is_whole, int_read, long_read, eight_read}
use Rattle.osc_cues.specs.Numbers.{sixteen_read, float_read, double_read, decimal_float}
use Rattle.osc_cues.specs.Quoted.{has_quote, quoted_read, value_text}

-- one of two words
abbrev pub is_either : List ℕ → List ℕ → List ℕ → Bool
is_either one other word = bytes_eq word one || bytes_eq word other

-- a bracket that begins an array, or else one that ends it
abbrev pub bracket_of : List ℕ → Argument
bracket_of word = if bytes_eq word (codes "[") then array_start else array_end

-- an argument that is a name
abbrev pub name_read : List ℕ → Option Argument
name_read word =
    if is_either (codes "true") (codes "T") word then Some true_ else
    if is_either (codes "false") (codes "F") word then Some false_ else
    if is_either (codes "nil") (codes "N") word then Some nil else
    if is_either (codes "infinitum") (codes "I") word then Some infinitum else
    if is_either (codes "[") (codes "]") word then Some (bracket_of word) else None

-- a symbol, or a text
abbrev pub text_of : Bool → List ℕ → Argument
text_of is_symbol bytes = if is_symbol then symbol bytes else text bytes

-- what is read, or else the fault at the value of a word
abbrev pub value_or : {X : Type 0} → Fault → Option X → Result X WordFault
value_or fault (Some value) = Ok value
value_or fault None = wrong_at 2 fault

-- a character from `!` to `~`, or 8 digits
abbrev pub character_read : List ℕ → Option ℕ
character_read (byte ∷ []) = if nat_le 33 byte && nat_le byte 126 then Some byte else None
character_read value = eight_read value

-- a number of a tag and, after a colon, its digits
abbrev pub tagged_read : ℕ → List ℕ → Result Argument WordFault
tagged_read tag value =
    if tag == 105 then made integer (int_read 2 value) else
    if tag == 104 then made long (long_read 2 value) else
    if tag == 102 then made float (float_read 2 value) else
    if tag == 100 then made double (double_read 2 value) else
    if tag == 99 then made character (value_or NotCharacter (character_read value)) else
    if tag == 114 then made rgba (value_or NotEight (eight_read value)) else
    if tag == 109 then made midi (value_or NotEight (eight_read value)) else
    if tag == 116 then made time (value_or NotSixteen (sixteen_read value)) else
    wrong_at 0 NoType

-- the bytes of a blob
abbrev pub blob_read : List ℕ → Result (List ℕ) WordFault
blob_read value = value_or NotBlob (result_ok (decode_of value))

-- an argument of a tag and, after a colon, its value
abbrev pub value_read : ℕ → List ℕ → Result Argument WordFault
value_read tag value =
    if tag == 115 then made text (value_text 2 value) else
    if tag == 83 then made symbol (value_text 2 value) else
    if tag == 98 then made content (blob_read value) else
    tagged_read tag value

-- without a sign that may stand first
abbrev pub without_sign : List ℕ → List ℕ
without_sign [] = []
without_sign (first ∷ rest) = if first == 45 || first == 43 then rest else first ∷ rest

abbrev pub is_comma : ℕ → Bool
is_comma byte = byte == 44

-- digits before a comma, which is here, and after it
abbrev pub has_digits_round : List ℕ → Option ℕ → Bool
has_digits_round word None = false
has_digits_round word (Some at) =
    are_digits (without_sign (take at word)) && are_digits (drop (at + 1) word)

-- a number with a comma
abbrev pub has_comma : List ℕ → Bool
has_comma word = has_digits_round word (position is_comma word)

-- a byte that begins a number
abbrev pub begins_number : List ℕ → Bool
begins_number [] = false
begins_number (first ∷ rest) = is_ascii_digit first || first == 43 || first == 45 || first == 46

-- a number without a tag
abbrev pub number_read : List ℕ → Result Argument WordFault
number_read word =
    if has_comma word then wrong_at 0 Comma else
    if is_whole word then made integer (int_read 0 word) else
    if begins_number word then made float (decimal_float 0 word) else wrong_at 0 NotArgument

-- an argument of a tag and a colon, or a number
abbrev pub said_read : List ℕ → Result Argument WordFault
said_read [] = number_read []
said_read (first ∷ []) = number_read (first ∷ [])
said_read (first ∷ colon ∷ value) =
    if colon == 58 then value_read first value else number_read (first ∷ colon ∷ value)

abbrev pub word_or : Option Argument → List ℕ → Result Argument WordFault
word_or (Some argument) word = Ok argument
word_or None word =
    if has_quote word then made text (quoted_read 0 word) else said_read word

-- the argument of a word, or what is wrong with it
abbrev pub argument_read : List ℕ → Result Argument WordFault
argument_read word = word_or (name_read word) word
