-- The fourth law: the units are numbered without a gap, and each is released once, waits, or was
-- discarded.
use Rattle.std.specs.Prelude.{◌≡◌, ◌↔◌, ℕ, List, ◌++◌, map}
use Rattle.std.specs.List.{AllByRecursion, Contains, flat_map}
use Rattle.std.specs.List.Sorted.{IsPermutation}
use Rattle.osc_queue.specs.Timed.{unit_of}
use Rattle.osc_model.specs.Events.{Entry}
use Rattle.osc_model.specs.Passing.{numbers_from, queued_in, released_in}
use Rattle.osc_model.specs.State.{Queued}
use Rattle.osc_laws.specs.Facts.{IsUnitOf, IsDiscarded}
use Rattle.osc_model.specs.declared.late.Late.{Late}

-- the numbers that a history's answers gave to units, in order
abbrev pub given_in : List Entry → List ℕ
given_in history = flat_map (λ entry. queued_in entry.answer) history

-- the numbers of the units that were released, in order
abbrev pub numbers_released : List Entry → List ℕ
numbers_released history = flat_map (λ entry. released_in entry.answer) history

-- So many numbers were given, from 0 on and without a gap. Each of them is, once, that of a unit
-- that was released, or of one that waits in the queue, which is the unit of that number, or of one
-- that was discarded.
pub record AreReleasedOnce (policy : Late) (history : List Entry)
    (queue : List Queued) : Type 0 where
  pub count : ℕ
  pub given : given_in history ≡ numbers_from 0 count
  pub discarded : List ℕ
  pub discarded_are : (number : ℕ) → Contains discarded number ↔ IsDiscarded policy history number
  pub once : IsPermutation (numbers_from 0 count)
      (numbers_released history ++ (map (λ item. unit_of item) queue ++ discarded))
  pub waiting : AllByRecursion (λ item. IsUnitOf history (unit_of item) item.2) queue
