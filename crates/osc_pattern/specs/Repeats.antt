-- What is left of a name after all items of a text, and after so many repeats of it.
use Rattle.std.specs.Prelude.{ℕ, zero, suc, List, [], ◌∷◌, Result, Ok, Err}
use Rattle.std.specs.List.{flat_map}
use Rattle.osc_pattern.specs.Items.{Item}
use Rattle.osc_pattern.specs.Cuts.{after_item}
use Rattle.osc_pattern.specs.Reading.{read_part}

-- what is left of a name after a text of each of the items
abbrev pub after_items : List Item → List ℕ → List (List ℕ)
after_items [] name = name ∷ []
after_items (item ∷ items) name = flat_map (after_items items) (after_item item name)

-- what is left of a name after the items that were read
abbrev pub after_read : Result (List Item) ℕ → List ℕ → List (List ℕ)
after_read (Ok items) name = after_items items name
after_read (Err at) name = []

-- what is left of a name after the items of a text
abbrev pub after_part : List ℕ → List ℕ → List (List ℕ)
after_part part name = after_read (read_part part) name

-- what is left of a name after the items of a text, so many times
abbrev pub after_times : ℕ → List ℕ → List ℕ → List (List ℕ)
after_times zero part name = name ∷ []
after_times (suc times) part name = flat_map (after_times times part) (after_part part name)
