-- Parts of a pattern, as items one after another, and the names that they match.
use Rattle.std.specs.Prelude.{◌≡◌, ℕ, IsTrue, List, [], ◌∷◌, ◌++◌}
use Rattle.std.specs.List.{flat_map, list_all}
use Rattle.osc_pattern.specs.Items.{Item, item_text, is_item, IsText}

-- the part is the items' texts in a row
pub record IsPart (part : List ℕ) (items : List Item) : Type 0 where
  pub spelled : part ≡ flat_map item_text items
  pub lawful : IsTrue (list_all is_item items)

-- a part is lawful where it is made of items
abbrev pub IsLawfulPart : List ℕ → Type 0
IsLawfulPart part = (items : List Item) × IsPart part items

-- the name can be cut into pieces, one for each item, each a text of its item
abbrev pub MatchPart : List Item → List ℕ → Type 0
MatchPart [] name = name ≡ []
MatchPart (item ∷ items) name = (piece : List ℕ) × (rest : List ℕ) × (name ≡ piece ++ rest)
    × IsText item piece × MatchPart items rest

-- the part is made of items that match the name
pub record MatchesName (part name : List ℕ) : Type 0 where
  pub items : List Item
  pub read : IsPart part items
  pub cut : MatchPart items name
