-- Arguments, in the words of a sheet of cues.
use Rattle.std.specs.Prelude.{◌≡◌, ℕ, ◌≤◌, Bool, true, false, not, ◌&&◌, nat_le, if◌then◌else◌}
use Rattle.std.specs.Prelude.{List, [], ◌∷◌, ◌++◌, length, take, codes, Some, from_bits}
use lib.Ieee.{Format, binary32, binary64, nan_bits}
use Rattle.std.specs.Float.{float_is_finite}
use Rattle.std.specs.Fmt.{decimal, signed_decimal}
use Rattle.hex.specs.Hex.{encode_lower}
use Rattle.fast_float.specs.Parse.{parse_float}
use Rattle.ryu.specs.Plain.{IsLaidOutNumber}
use Rattle.osc_atoms.specs.Atoms.{word, tag}
use Rattle.osc_message.specs.Messages.{Argument, integer, float, text, content, long, time, double}
use Rattle.osc_message.specs.Messages.{symbol, character, rgba, midi, true_, false_, nil, infinitum}
use Rattle.osc_message.specs.Messages.{array_start, array_end}
use Rattle.osc_shown.specs.Texts.{text_word}

-- the bits are those of a number, and not of an infinity
abbrev pub is_finite : Format → ℕ → Bool
is_finite format bits = not (nan_bits format bits) && float_is_finite (from_bits format bits)

-- A decimal that reads as the number with these bits. It has a point or an exponent: at most so
-- many digits stand before the point, and at most so many zeros after it, else an exponent.
pub record IsDecimal (format : Format) (digits zeros bits : ℕ) (said : List ℕ) : Type 0 where
  pub reads : parse_float format said ≡ Some (from_bits format bits)
  pub layout : IsLaidOutNumber digits zeros said
  pub short : length said ≤ 25

-- the word of a float: a decimal, or the bits where it isn't finite
pub record IsFloat (bits : ℕ) (said : List ℕ) : Type 0 where
  pub finite : is_finite binary32 bits ≡ true → IsDecimal binary32 13 5 bits said
  pub other : is_finite binary32 bits ≡ false → said ≡ codes "f:" ++ encode_lower (word bits)

-- the word of a double
pub record IsDouble (bits : ℕ) (said : List ℕ) : Type 0 where
  pub finite : is_finite binary64 bits ≡ true
      → (number : List ℕ) × IsDecimal binary64 16 4 bits number × (said ≡ codes "d:" ++ number)
  pub other : is_finite binary64 bits ≡ false → said ≡ codes "d:" ++ encode_lower (tag bits)

-- the word of a float was added
abbrev pub AddsFloat : ℕ → List ℕ → List ℕ → Type 0
AddsFloat bits before after =
    (said : List ℕ) × IsFloat bits said × (after ≡ before ++ said)

-- the word of a double was added
abbrev pub AddsDouble : ℕ → List ℕ → List ℕ → Type 0
AddsDouble bits before after =
    (said : List ℕ) × IsDouble bits said × (after ≡ before ++ said)

-- a blob, or its first eight bytes and how many there are
abbrev pub blob_text : List ℕ → List ℕ
blob_text bytes =
    if nat_le (length bytes) 8 then codes "b:" ++ encode_lower bytes
    else codes "b:" ++ encode_lower (take 8 bytes) ++ codes ".." ++ decimal (length bytes)

-- a blob, whole or with its first bytes alone
abbrev pub blob_word : Bool → List ℕ → List ℕ
blob_word true bytes = codes "b:" ++ encode_lower bytes
blob_word false bytes = blob_text bytes

-- a character from `!` to `~` as it is, any other by its bytes
abbrev pub character_text : ℕ → List ℕ
character_text number =
    if nat_le 33 number && nat_le number 126 then codes "c:" ++ number ∷ []
    else codes "c:" ++ encode_lower (word number)

-- the word of an argument, whole or cut where it is long
abbrev pub IsWord : Bool → Argument → List ℕ → Type 0
IsWord whole (integer number) said = said ≡ signed_decimal number
IsWord whole (long number) said = said ≡ codes "h:" ++ signed_decimal number
IsWord whole (float bits) said = IsFloat bits said
IsWord whole (double bits) said = IsDouble bits said
IsWord whole (text bytes) said = said ≡ text_word whole bytes
IsWord whole (symbol bytes) said = said ≡ codes "S:" ++ text_word whole bytes
IsWord whole (content bytes) said = said ≡ blob_word whole bytes
IsWord whole (character number) said = said ≡ character_text number
IsWord whole (rgba number) said = said ≡ codes "r:" ++ encode_lower (word number)
IsWord whole (midi number) said = said ≡ codes "m:" ++ encode_lower (word number)
IsWord whole (time number) said = said ≡ codes "t:" ++ encode_lower (tag number)
IsWord whole true_ said = said ≡ codes "true"
IsWord whole false_ said = said ≡ codes "false"
IsWord whole nil said = said ≡ codes "nil"
IsWord whole infinitum said = said ≡ codes "infinitum"
IsWord whole array_start said = said ≡ codes "["
IsWord whole array_end said = said ≡ codes "]"

-- the word of an argument was added
abbrev pub AddsWord : Bool → Argument → List ℕ → List ℕ → Type 0
AddsWord whole argument before after =
    (said : List ℕ) × IsWord whole argument said × (after ≡ before ++ said)

-- a space and the word of an argument were added
abbrev pub AddsSpaced : Bool → Argument → List ℕ → List ℕ → Type 0
AddsSpaced whole argument before after =
    (said : List ℕ) × IsWord whole argument said × (after ≡ before ++ 32 ∷ said)

-- the words of arguments, one after another, a space before each
abbrev pub AreWords : Bool → List Argument → List ℕ → Type 0
AreWords whole [] said = said ≡ []
AreWords whole (argument ∷ arguments) said =
    (one : List ℕ) × (others : List ℕ) × IsWord whole argument one
    × AreWords whole arguments others × (said ≡ (32 ∷ one) ++ others)

-- these words were added
abbrev pub AddsWords : Bool → List Argument → List ℕ → List ℕ → Type 0
AddsWords whole arguments before after =
    (said : List ℕ) × AreWords whole arguments said × (after ≡ before ++ said)
