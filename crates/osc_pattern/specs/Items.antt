-- Items of a pattern: how each is written, and which texts it matches.
-- The bytes are `!` 33, `*` 42, `,` 44, `-` 45, `/` 47, `?` 63, `[` 91, `]` 93, `{` 123 and `}`
-- 125.
use Rattle.std.specs.Prelude.{◌≡◌, ℕ, min, max, Bool, true, false, ◌&&◌, ◌||◌, not, ◌==◌, nat_le}
use Rattle.std.specs.Prelude.{IsTrue, if◌then◌else◌, List, [], ◌∷◌, ◌++◌, length, Contains}
use Rattle.std.specs.List.{list_any, slice_split}

-- an item of a part: `?`, `*`, a list in brackets, choices in braces, or one plain byte
pub data Item : Type 0 where
  any : Item
  star : Item
  set : List ℕ → Item
  choice : List ℕ → Item
  plain : ℕ → Item

-- the byte that stands before each part of a pattern and each name of an address
abbrev pub is_slash : ℕ → Bool
is_slash byte = byte == 47

-- the byte between two choices
abbrev pub is_comma : ℕ → Bool
is_comma byte = byte == 44

-- the byte that closes a list
abbrev pub is_list_end : ℕ → Bool
is_list_end byte = byte == 93

-- the byte that closes choices
abbrev pub is_choice_end : ℕ → Bool
is_choice_end byte = byte == 125

-- `?`, `*`, `[`, `{` and `/` are no plain bytes
abbrev pub is_plain : ℕ → Bool
is_plain byte = not (byte == 63 || byte == 42 || byte == 91 || byte == 123 || is_slash byte)

-- how an item is written
abbrev pub item_text : Item → List ℕ
item_text any = 63 ∷ []
item_text star = 42 ∷ []
item_text (set list) = 91 ∷ (list ++ 93 ∷ [])
item_text (choice texts) = 123 ∷ (texts ++ 125 ∷ [])
item_text (plain byte) = byte ∷ []

-- lawful items: a list has no byte that closes it, nor have choices, and a plain byte begins no
-- other item
abbrev pub is_item : Item → Bool
is_item any = true
is_item star = true
is_item (set list) = not (list_any is_list_end list)
is_item (choice texts) = not (list_any is_choice_end texts)
is_item (plain byte) = is_plain byte

-- a byte other than `-`, then `-`: with one more byte of the list they are a range
abbrev pub begins_range : ℕ → ℕ → Bool
begins_range first second = not (first == 45) && second == 45

-- the byte is one of those between the two ends, whichever is greater
abbrev pub is_between : ℕ → ℕ → ℕ → Bool
is_between first last byte = nat_le (min first last) byte && nat_le byte (max first last)

-- the bytes that a list stands for, read from left to right: ranges, and single bytes
abbrev pub stands_for : List ℕ → ℕ → Bool
stands_for [] byte = false
stands_for (first ∷ []) byte = byte == first
stands_for (first ∷ second ∷ []) byte = byte == first || byte == second
stands_for (first ∷ second ∷ last ∷ rest) byte =
    if begins_range first second then is_between first last byte || stands_for rest byte
    else byte == first || stands_for (second ∷ last ∷ rest) byte

-- the bytes that a set matches: those of its list, or with a first `!` all but those of the rest of
-- the list
abbrev pub is_in_set : List ℕ → ℕ → Bool
is_in_set [] byte = false
is_in_set (first ∷ rest) byte = if first == 33 then not (stands_for rest byte)
    else stands_for (first ∷ rest) byte

-- the texts that an item matches
abbrev pub IsText : Item → List ℕ → Type 0
IsText any text = length text ≡ 1
IsText star text = Unit {0}
IsText (set list) text = (byte : ℕ) × (text ≡ byte ∷ []) × IsTrue (is_in_set list byte)
IsText (choice texts) text = Contains (slice_split is_comma texts) text
IsText (plain byte) text = text ≡ byte ∷ []
