-- Texts, read from words.
use Rattle.std.specs.Prelude.{ℕ, zero, suc, ◌+◌, ◌-◌, ◌==◌, ◌&&◌, ◌||◌, Bool, true, false, not}
use Rattle.std.specs.Prelude.{nat_le, nat_eq}
use Rattle.std.specs.Prelude.{if◌then◌else◌, List, [], ◌∷◌, length, take, drop, codes, Option, Some}
use Rattle.std.specs.Prelude.{None, option_and_then, Result, Ok, Err}
use Rattle.std.specs.List.{starts_with, ends_with}
use Rattle.std.specs.Result.{result_ok}
use Rattle.hex.specs.Hex.{decode_of}
use Rattle.osc_cues.specs.declared.fault.Fault.{Fault}
use Rattle.osc_cues.specs.declared.fault.Fault.TheVariants.{NotText, InnerQuote, QuotedEscape}
use Rattle.osc_cues.specs.declared.fault.Fault.TheVariants.{PlainEscape, PlainByte, ZeroByte}
use Rattle.osc_cues.specs.declared.fault.WordFault.{WordFault}
use Rattle.osc_cues.specs.Faults.{wrong_at, before}

-- the first byte, where it is alone
abbrev pub alone : List ℕ → Option ℕ
alone (byte ∷ []) = Some byte
alone _ = None

-- the byte of two hexadecimal digits
abbrev pub pair_read : ℕ → ℕ → Option ℕ
pair_read high low = option_and_then alone (result_ok (decode_of (high ∷ low ∷ [])))

-- a byte that isn't 0, and what follows it; the fault where there is none
abbrev pub byte_or : Fault → List ℕ → Option ℕ → Result (ℕ × List ℕ) Fault
byte_or fault rest None = Err fault
byte_or fault rest (Some byte) = if byte == 0 then Err ZeroByte else Ok (byte, rest)

-- an `x` and two digits, and what follows them; else the fault
abbrev pub escape_read : Fault → List ℕ → Result (ℕ × List ℕ) Fault
escape_read fault (first ∷ high ∷ low ∷ rest) =
    if first == 120 then byte_or fault rest (pair_read high low) else Err fault
escape_read fault _ = Err fault

-- what a backslash within quotes stands before: a quote, a backslash, or `x` and two digits
abbrev pub marked_read : List ℕ → Result (ℕ × List ℕ) Fault
marked_read [] = Err QuotedEscape
marked_read (first ∷ rest) =
    if first == 34 || first == 92 then Ok (first, rest)
    else escape_read QuotedEscape (first ∷ rest)

-- the first byte of what stands within quotes, and what follows it
abbrev pub quoted_first : List ℕ → Result (ℕ × List ℕ) Fault
quoted_first [] = Err QuotedEscape
quoted_first (byte ∷ rest) =
    if byte == 92 then marked_read rest else
    if byte == 34 then Err InnerQuote else
    if byte == 0 then Err ZeroByte else Ok (byte, rest)

-- a byte from `!` to `~` that isn't a backslash
abbrev pub is_plain : ℕ → Bool
is_plain byte = nat_le 33 byte && nat_le byte 126 && not (byte == 92)

-- the first byte of a text without quotes, and what follows it
abbrev pub plain_first : List ℕ → Result (ℕ × List ℕ) Fault
plain_first [] = Err PlainByte
plain_first (byte ∷ rest) =
    if byte == 92 then escape_read PlainEscape rest else
    if is_plain byte then Ok (byte, rest) else Err PlainByte

abbrev pub first_read : Bool → List ℕ → Result (ℕ × List ℕ) Fault
first_read quoted text = if quoted then quoted_first text else plain_first text

-- a byte, and what is read of the rest; or its fault
abbrev pub then_text : ℕ → (List ℕ → Result (List ℕ) WordFault) → Result (ℕ × List ℕ) Fault
    → Result (List ℕ) WordFault
then_text at more (Err fault) = wrong_at at fault
then_text at more (Ok cut) = before cut.0 (more cut.1)

-- the bytes of a text of at most so many, which ends at this place of its word
abbrev pub text_within : Bool → ℕ → ℕ → List ℕ → Result (List ℕ) WordFault
text_within quoted end most [] = Ok []
text_within quoted end zero (byte ∷ rest) = Ok []
text_within quoted end (suc most) (byte ∷ rest) =
    then_text (end - suc (length rest)) (λ text. text_within quoted end most text)
    (first_read quoted (byte ∷ rest))

-- the bytes of a text that ends at this place of its word
abbrev pub text_read : Bool → ℕ → List ℕ → Result (List ℕ) WordFault
text_read quoted end text = text_within quoted end (length text) text

-- a quote stands first
abbrev pub has_quote : List ℕ → Bool
has_quote word = starts_with nat_eq word (codes "\"")

-- a quote stands last, and isn't the first
abbrev pub is_closed : List ℕ → Bool
is_closed word = nat_le 2 (length word) && ends_with nat_eq word (codes "\"")

-- what stands between the first byte and the last
abbrev pub inner : List ℕ → List ℕ
inner word = take (length word - 1 - 1) (drop 1 word)

-- the bytes of a text in quotes that begins at a place of its word
abbrev pub quoted_read : ℕ → List ℕ → Result (List ℕ) WordFault
quoted_read at word =
    if is_closed word then text_read true (at + length word - 1) (inner word)
    else wrong_at at NotText

-- the bytes of a text, in quotes or without
abbrev pub value_text : ℕ → List ℕ → Result (List ℕ) WordFault
value_text at word =
    if has_quote word then quoted_read at word else text_read false (at + length word) word
