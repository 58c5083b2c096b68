-- Inside the crate: entries as a heap.
use Rattle.std.specs.Prelude.{◌≡◌, ◌≢◌, ℕ, ◌+◌, ◌*◌, ◌<◌, ◌≤◌, false, List, length, Option, Some}
use Rattle.std.specs.Prelude.{None}
use Rattle.osc_queue.specs.declared.entry.Entry.{Entry}
use Rattle.osc_queue.specs.Views.{before_at, above}

module _ {T : Type 0} where
  -- a heap but for the entry in a place, which may be taken before the one above it
  pub record Rises (place : ℕ) (entries : List (Entry T)) : Type 0 where
    pub others : (j : ℕ) (d : Entry T) → 0 < j → j < length entries → j ≢ place
        → before_at entries j (above j) d ≡ false
    pub below : (j : ℕ) (d : Entry T) → 0 < j → j < length entries → above j ≡ place → 0 < place
        → before_at entries j (above place) d ≡ false

  -- a heap but for the entry in a place, which may be taken before the one above it, or after those
  -- right below it
  pub record Sinks (place : ℕ) (entries : List (Entry T)) : Type 0 where
    pub others : (j : ℕ) (d : Entry T) → 0 < j → j < length entries → j ≢ place
        → above j ≢ place → before_at entries j (above j) d ≡ false
    pub below : (j : ℕ) (d : Entry T) → 0 < j → j < length entries → above j ≡ place → 0 < place
        → before_at entries j (above place) d ≡ false

  -- the place right below this one whose entry is taken first, or that there is none
  abbrev pub IsFirstBelow : List (Entry T) → ℕ → Option ℕ → Type 0
  IsFirstBelow entries place None = length entries ≤ 2 * place + 1
  IsFirstBelow entries place (Some child) =
      (0 < child) × (child < length entries) × (above child ≡ place)
      × ((j : ℕ) (d : Entry T) → 0 < j → j < length entries → above j ≡ place
      → before_at entries j child d ≡ false)
