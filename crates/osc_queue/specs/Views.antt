-- What the entries of a queue stand for.
use Rattle.std.specs.Prelude.{◌≡◌, ℕ, ◌-◌, ◌/◌, ◌<◌, ◌≤◌, ◌==◌, Bool, false, List, [], ◌∷◌, map}
use Rattle.std.specs.Prelude.{length, slice_index_or}
use Rattle.std.specs.List.{IsDistinct}
use Rattle.osc_queue.specs.declared.entry.Entry.{Entry}
use Rattle.osc_queue.specs.Timed.{Item, unit_of, is_before, enter}

-- the place above one that isn't the first
abbrev pub above : ℕ → ℕ
above place = (place - 1) / 2

module _ {T : Type 0} where
  -- the item that an entry keeps
  abbrev pub item_of : Entry T → Item T
  item_of entry = (entry.due, entry.unit, entry.item)

  -- the items that entries keep, in their places
  abbrev pub items_of : List (Entry T) → List (Item T)
  items_of entries = map item_of entries

  -- items in the order in which they are taken: each enters those after it
  abbrev pub in_order : List (Item T) → List (Item T)
  in_order [] = []
  in_order (item ∷ items) = enter item (in_order items)

  -- each item has a unit number of its own
  abbrev pub AreApart : List (Item T) → Type 0
  AreApart items = IsDistinct ◌==◌ (map unit_of items)

  -- whether the entry in one place is taken before the one in another
  abbrev pub before_at : List (Entry T) → ℕ → ℕ → Entry T → Bool
  before_at entries j k d =
      is_before (item_of (slice_index_or entries j d)) (item_of (slice_index_or entries k d))

  -- no entry is taken before the one above it
  abbrev pub IsHeap : List (Entry T) → Type 0
  IsHeap entries = (j : ℕ) (d : Entry T) → 0 < j → j < length entries
      → before_at entries j (above j) d ≡ false

-- the entries are a heap, their units are apart, they are no more than the limit, and as many as
-- that have room
pub record IsReserved {T : Type 0} (entries : List (Entry T)) (limit capacity : ℕ) : Type 0 where
  pub heap : IsHeap entries
  pub apart : AreApart (items_of entries)
  pub within : length entries ≤ limit
  pub reserved : limit ≤ capacity
