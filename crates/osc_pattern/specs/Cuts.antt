-- The plain matcher, which tries each way to cut a name.
use Rattle.std.specs.Prelude.{ℕ, ◌+◌, Bool, true, false, ◌&&◌, ◌||◌, ◌==◌, if◌then◌else◌, List, []}
use Rattle.std.specs.Prelude.{◌∷◌, drop, take, length}
use Rattle.std.specs.List.{list_any, slice_split, flat_map}
use Rattle.std.specs.Str.{bytes_eq}
use Rattle.osc_pattern.specs.Items.{Item, any, star, set, choice, plain, is_comma, is_in_set}

-- what is left of a name after none, one or more of its bytes
abbrev pub rests : List ℕ → List (List ℕ)
rests [] = [] ∷ []
rests (byte ∷ name) = (byte ∷ name) ∷ rests name

-- what is left of a name after the text, if it begins with it
abbrev pub after_text : List ℕ → List ℕ → List (List ℕ)
after_text name text = if bytes_eq (take (length text) name) text then drop (length text) name ∷ []
    else []

-- whether a byte alone is a text of the item: of `?`, a list or a plain byte
abbrev pub has_byte : Item → ℕ → Bool
has_byte any byte = true
has_byte star byte = false
has_byte (set list) byte = is_in_set list byte
has_byte (choice texts) byte = false
has_byte (plain own) byte = byte == own

-- what is left of a name after a first byte that is a text of the item
abbrev pub after_byte : Item → List ℕ → List (List ℕ)
after_byte item [] = []
after_byte item (byte ∷ name) = if has_byte item byte then name ∷ [] else []

-- what is left of a name after a text of the item, for each such text that it begins with
abbrev pub after_item : Item → List ℕ → List (List ℕ)
after_item any name = after_byte any name
after_item star name = rests name
after_item (set list) name = after_byte (set list) name
after_item (choice texts) name = flat_map (after_text name) (slice_split is_comma texts)
after_item (plain own) name = after_byte (plain own) name

-- whether the items match a name: after a text of the first item the others match what is left
abbrev pub match_items : List Item → List ℕ → Bool
match_items [] [] = true
match_items [] (byte ∷ name) = false
match_items (item ∷ items) name = list_any (match_items items) (after_item item name)

-- whether what is left of a name passes the test at one of the places; the name begins at this one
abbrev pub any_rest : (List ℕ → Bool) → (ℕ → Bool) → ℕ → List ℕ → Bool
any_rest test places at [] = places at && test []
any_rest test places at (byte ∷ name) =
    (places at && test (byte ∷ name)) || any_rest test places (at + 1) name
