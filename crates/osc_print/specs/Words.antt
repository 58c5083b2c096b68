-- The words of printed lines.
use Rattle.std.specs.Prelude.{◌≡◌, ℕ, Bool, not, ◌&&◌, ◌==◌, nat_le, if◌then◌else◌, List, [], ◌∷◌}
use Rattle.std.specs.Prelude.{◌++◌, Option, Some, None, codes}
use Rattle.std.specs.List.{flat_map}
use Rattle.std.specs.Fmt.{signed_decimal}
use Rattle.hex.specs.Hex.{encode_lower}
use Rattle.osc_atoms.specs.Atoms.{word, tag}
use Rattle.osc_message.specs.Messages.{Argument, integer, float, text, content, long, time, double}
use Rattle.osc_message.specs.Messages.{symbol, character, rgba, midi, true_, false_, nil, infinitum}
use Rattle.osc_message.specs.Messages.{array_start, array_end}

-- a space, and a word
abbrev pub spaced : List ℕ → List ℕ
spaced letters = 32 ∷ letters

-- a byte from `!` to `~` that isn't a backslash
abbrev pub is_shown : ℕ → Bool
is_shown byte = nat_le 33 byte && nat_le byte 126 && not (byte == 92)

-- such a byte as it is, any other as `\\x` and two digits
abbrev pub shown_byte : ℕ → List ℕ
shown_byte byte = if is_shown byte then byte ∷ [] else 92 ∷ 120 ∷ encode_lower (byte ∷ [])

-- the tag and, after a colon, the value: numbers in decimal, words and tags as hexadecimal digits,
-- texts as they can be shown; what has no bytes is its tag alone
abbrev pub argument_word : Argument → List ℕ
argument_word (integer number) = codes "i:" ++ signed_decimal number
argument_word (float bits) = codes "f:" ++ encode_lower (word bits)
argument_word (text bytes) = codes "s:" ++ flat_map shown_byte bytes
argument_word (content bytes) = codes "b:" ++ encode_lower bytes
argument_word (long number) = codes "h:" ++ signed_decimal number
argument_word (time number) = codes "t:" ++ encode_lower (tag number)
argument_word (double bits) = codes "d:" ++ encode_lower (tag bits)
argument_word (symbol bytes) = codes "S:" ++ flat_map shown_byte bytes
argument_word (character number) = codes "c:" ++ encode_lower (word number)
argument_word (rgba number) = codes "r:" ++ encode_lower (word number)
argument_word (midi number) = codes "m:" ++ encode_lower (word number)
argument_word true_ = codes "T"
argument_word false_ = codes "F"
argument_word nil = codes "N"
argument_word infinitum = codes "I"
argument_word array_start = codes "["
argument_word array_end = codes "]"

-- a space and a word for each argument
abbrev pub argument_words : List Argument → List ℕ
argument_words arguments = flat_map (λ argument. spaced (argument_word argument)) arguments

-- a comma and the tags, or a dash where there is no tag string
abbrev pub tags_word : Option (List ℕ) → List ℕ
tags_word None = codes "-"
tags_word (Some tags) = 44 ∷ tags

-- a text begins with an earlier one
abbrev pub BeginsWith : List ℕ → List ℕ → Type 0
BeginsWith bytes earlier = (more : List ℕ) × (bytes ≡ earlier ++ more)
