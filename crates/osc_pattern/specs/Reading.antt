-- A part read from left to right: its items, or the place of the first bracket that isn't closed.
use Rattle.std.specs.Prelude.{ℕ, ◌+◌, zero, suc, Bool, false, ◌==◌, if◌then◌else◌, List, [], ◌∷◌}
use Rattle.std.specs.Prelude.{length, take, drop, position, Option, Some, None, option_map, Result}
use Rattle.std.specs.Prelude.{Ok, Err}
use Rattle.osc_pattern.specs.Items.{Item, any, star, set, choice, plain, item_text, begins_range}
use Rattle.osc_pattern.specs.Items.{is_slash, is_list_end, is_choice_end}
use Rattle.osc_pattern.specs.Cuts.{match_items}

-- the ends of the first range of a list, and what follows it; a byte that begins no range stands
-- for itself
abbrev pub first_range : List ℕ → Option ((ℕ × ℕ) × List ℕ)
first_range [] = None
first_range (first ∷ []) = Some ((first, first), [])
first_range (first ∷ second ∷ []) = Some ((first, first), second ∷ [])
first_range (first ∷ second ∷ last ∷ rest) =
    if begins_range first second then Some ((first, last), rest)
    else Some ((first, first), second ∷ last ∷ rest)

-- the bytes before the first one that passes the test, and those after it
abbrev pub cut_at : (ℕ → Bool) → List ℕ → Option (List ℕ × List ℕ)
cut_at test bytes = option_map (λ at. (take at bytes, drop (at + 1) bytes)) (position test bytes)

-- the first item of a part, and what follows it
abbrev pub first_item : List ℕ → Option (Item × List ℕ)
first_item [] = None
first_item (first ∷ rest) =
    if first == 63 then Some (any, rest) else
    if first == 42 then Some (star, rest) else
    if first == 91 then option_map (λ cut. (set cut.0, cut.1)) (cut_at is_list_end rest) else
    if first == 123 then option_map (λ cut. (choice cut.0, cut.1)) (cut_at is_choice_end rest) else
    if is_slash first then None else Some (plain first, rest)

-- the first item before the items of the rest; a place in the rest counts from the item's first
-- byte
abbrev pub with_first : Option (Item × Result (List Item) ℕ) → Result (List Item) ℕ
with_first None = Err 0
with_first (Some (item, Ok items)) = Ok (item ∷ items)
with_first (Some (item, Err at)) = Err (length (item_text item) + at)

-- the items of a part of at most so many bytes
abbrev pub read_within : ℕ → List ℕ → Result (List Item) ℕ
read_within most [] = Ok []
read_within zero (first ∷ rest) = Err 0
read_within (suc most) (first ∷ rest) =
    with_first (option_map (λ cut. (cut.0, read_within most cut.1)) (first_item (first ∷ rest)))

-- the items of a part, or the place of the first bracket that isn't closed
unfoldable pub read_part : List ℕ → Result (List Item) ℕ
read_part part = read_within (length part) part

-- whether a part that was read matches the name
abbrev pub match_read : Result (List Item) ℕ → List ℕ → Bool
match_read (Ok items) name = match_items items name
match_read (Err at) name = false

-- whether the part matches the name
abbrev pub match_part : List ℕ → List ℕ → Bool
match_part part name = match_read (read_part part) name
