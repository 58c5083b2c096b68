-- Inside the crate: how the code's items stand for items, and its sets for places of a name.
use Rattle.std.specs.Prelude.{◌≡◌, ℕ, ◌<◌, Bool, true, false, ◌==◌, ◌&&◌, List, [], ◌∷◌, length}
use Rattle.std.specs.Prelude.{get_or, zero, suc, ◌+◌, ◌||◌, if◌then◌else◌}
use Rattle.std.specs.Int.{bit_at}
use Rattle.osc_pattern.specs.declared.item.Item.{Item as Borrowed}
use Rattle.osc_pattern.specs.declared.item.Item.TheVariants.{Any, Star, Set, Choice, Plain}
use Rattle.osc_pattern.specs.declared.places.Places.{Places}
use Rattle.std.specs.List.{list_any, flat_map}
use Rattle.osc_pattern.specs.Cuts.{any_rest, after_text}
use Rattle.osc_pattern.specs.Items.{Item, any, star, set, choice, plain}

abbrev pub item_of : Borrowed → Item
item_of Any = any
item_of Star = star
item_of (Set list) = set list.now
item_of (Choice texts) = choice texts.now
item_of (Plain byte) = plain byte

-- whether the item is a choice
abbrev pub is_choice : Borrowed → Bool
is_choice Any = false
is_choice Star = false
is_choice (Set list) = false
is_choice (Choice texts) = true
is_choice (Plain byte) = false

-- how many bytes a star or an empty choice takes that a part begins with
abbrev pub idle_bytes : List ℕ → ℕ
idle_bytes [] = 0
idle_bytes (first ∷ []) = if first == 42 then 1 else 0
idle_bytes (first ∷ second ∷ rest) =
    if first == 42 then 1 else if first == 123 && second == 125 then 2 else 0

-- whether a part begins with a choice of nothing but the empty text
abbrev pub begins_empty : List ℕ → Bool
begins_empty [] = false
begins_empty (first ∷ []) = false
begins_empty (first ∷ second ∷ rest) = first == 123 && second == 125

-- whether the place is one of the set
abbrev pub is_place_of : Places → ℕ → Bool
is_place_of places place = bit_at places.bits place == 1

-- whether it has begun before a place, or at one of the places from there on to so many after it
abbrev pub reached_from : Bool → (ℕ → Bool) → ℕ → ℕ → Bool
reached_from begun places at zero = begun || places at
reached_from begun places at (suc more) = reached_from (begun || places at) places (at + 1) more

-- whether what is left of the name passes the test at one of the places
abbrev pub passes : (List ℕ → Bool) → Places → List ℕ → Bool
passes test places name = any_rest test (is_place_of places) 0 name

-- what is left of a choice: the rest of the text that was begun, from the places that it has come
-- to, and the other texts
abbrev pub texts_left : (List ℕ → Bool) → (ℕ → Bool) → (ℕ → Bool) → List (List ℕ) → List ℕ → Bool
texts_left test places all [] name = false
texts_left test places all (text ∷ texts) name =
    any_rest (λ rest. list_any test (after_text rest text)) places 0 name
    || any_rest (λ rest. list_any test (flat_map (after_text rest) texts)) all 0 name

-- for each byte, the places that stand right before it are marked
abbrev pub AreMarks : List ℕ → List ℕ → Type 0
AreMarks marks name = (byte place : ℕ) → byte < 256 → place < length name
    → (bit_at (get_or marks byte 0) place == 1) ≡ (get_or name place 0 == byte)
