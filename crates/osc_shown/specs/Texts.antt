-- Texts, as they stand between quotes.
use Rattle.std.specs.Prelude.{ℕ, ◌==◌, Bool, true, false, ◌&&◌, ◌||◌, nat_le, nat_lt}
use Rattle.std.specs.Prelude.{if◌then◌else◌, List, [], ◌∷◌, ◌++◌, length, take, codes}
use Rattle.std.specs.Prelude.{chars, encode_utf8}
use Rattle.std.specs.List.{flat_map}
use Rattle.std.specs.Str.{is_utf8}
use Rattle.std.specs.Fmt.{decimal}
use Rattle.hex.specs.Hex.{encode_lower}

-- a character from the space to `~`
abbrev pub is_printed : ℕ → Bool
is_printed byte = nat_le 32 byte && nat_le byte 126

-- a character that stands after a backslash
abbrev pub is_marked : ℕ → Bool
is_marked byte = byte == 34 || byte == 92

-- `\\x` and two digits
abbrev pub escaped_byte : ℕ → List ℕ
escaped_byte byte = codes "\\x" ++ encode_lower (byte ∷ [])

-- the same for each byte
abbrev pub escaped : List ℕ → List ℕ
escaped bytes = flat_map escaped_byte bytes

-- a byte as it stands in a text that isn't UTF-8
abbrev pub shown_byte : ℕ → List ℕ
shown_byte byte =
    if is_marked byte then 92 ∷ byte ∷ []
    else if is_printed byte then byte ∷ [] else escaped_byte byte

-- a character as it stands in a text that is: those from U+00A0 on as they are
abbrev pub shown_char : ℕ → List ℕ
shown_char letter =
    if nat_lt letter 128 then shown_byte letter
    else if nat_lt letter 160 then escaped (encode_utf8 letter) else encode_utf8 letter

-- how many characters are shown
abbrev pub most_shown : ℕ
most_shown = 40

-- after the closing quote, how many bytes a text has that isn't shown whole
abbrev pub rest_text : Bool → ℕ → List ℕ
rest_text true size = []
rest_text false size = codes ".." ++ decimal size

-- the characters of a text that is UTF-8, between quotes
abbrev pub quoted_text : List ℕ → List ℕ
quoted_text bytes =
    codes "\"" ++ flat_map shown_char (take most_shown (chars bytes)) ++ codes "\""
    ++ rest_text (nat_le (length (chars bytes)) most_shown) (length bytes)

-- the bytes of any other, each of which counts as a character
abbrev pub quoted_bytes : List ℕ → List ℕ
quoted_bytes bytes =
    codes "\"" ++ flat_map shown_byte (take most_shown bytes) ++ codes "\""
    ++ rest_text (nat_le (length bytes) most_shown) (length bytes)

-- a text between quotes: its first characters, and after it how many bytes it has, if it has more
abbrev pub quoted : List ℕ → List ℕ
quoted bytes = if is_utf8 bytes then quoted_text bytes else quoted_bytes bytes

-- all characters of a text, or all bytes of one that isn't UTF-8
abbrev pub all_shown : List ℕ → List ℕ
all_shown bytes =
    if is_utf8 bytes then flat_map shown_char (chars bytes) else flat_map shown_byte bytes

-- a text between quotes, whole or with its first characters alone
abbrev pub text_word : Bool → List ℕ → List ℕ
text_word true bytes = codes "\"" ++ all_shown bytes ++ codes "\""
text_word false bytes = quoted bytes
