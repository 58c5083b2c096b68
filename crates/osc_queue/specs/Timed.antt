-- A timed queue: what it holds, and which of its items is taken first.
use Rattle.std.specs.Prelude.{◌≡◌, ◌≢◌, ℕ, ◌<◌, Bool, true, false, ◌&&◌, ◌||◌, ◌==◌, nat_lt, List}
use Rattle.std.specs.Prelude.{[], ◌∷◌, insert, refl}
use Rattle.std.specs.List.{AllByRecursion, position_or_len}
use Rattle.std.specs.Coded.{Coded, code_by, coded×, coded_ℕ, coded_list}

-- an item: the moment from which it is due, the number of its unit, and what is kept
abbrev pub Item : Type 0 → Type 0
Item T = ℕ × ℕ × T

-- what a contract sees of a queue: how many items it may hold, and those that it holds
pub record TimedQueue (T : Type 0) : Type 0 where
  pub limit : ℕ
  pub items : List (ℕ × ℕ × T)

-- an item is stored as the tuple of its parts
abbrev pub item_code : {T : Type 0} → Coded T → Coded (Item T)
item_code {T} code =
    code_by (ℕ × (ℕ × T)) (coded× coded_ℕ (coded× coded_ℕ code))
    (λ item. (item.0, (item.1, item.2))) (λ p. (p.0, p.1.0, p.1.1)) (λ _. refl)

-- a queue is stored as the pair of its fields
abbrev pub timed_code : {T : Type 0} → Coded T → Coded (TimedQueue T)
timed_code {T} code =
    code_by
    (ℕ × List (Item T))
    (coded× coded_ℕ (coded_list (item_code code)))
    (λ queue. (queue.limit, queue.items))
    (λ p. record { limit = p.0; items = p.1 })
    (λ _. refl)

module _ {T : Type 0} where
  -- the moment from which an item is due
  abbrev pub due_of : Item T → ℕ
  due_of item = item.0

  -- the number of an item's unit
  abbrev pub unit_of : Item T → ℕ
  unit_of item = item.1

  -- the first is taken before the second: it is due earlier, or at the same moment with the lower
  -- unit number
  abbrev pub is_before : Item T → Item T → Bool
  is_before a b = nat_lt (due_of a) (due_of b)
      || (due_of a == due_of b && nat_lt (unit_of a) (unit_of b))

  -- an item enters before the first that is taken after it
  abbrev pub enter : Item T → List (Item T) → List (Item T)
  enter item items = insert items (position_or_len (is_before item) items) item

  -- each item is taken before all those after it
  abbrev pub IsInOrder : List (Item T) → Type 0
  IsInOrder [] = Unit {0}
  IsInOrder (item ∷ items) = AllByRecursion (λ other. is_before item other ≡ true) items
      × IsInOrder items

  -- the least by due moment and unit number: no item of the list is taken before it
  abbrev pub IsLeast : Item T → List (Item T) → Type 0
  IsLeast item items = AllByRecursion (λ other. is_before other item ≡ false) items

  -- no item has this unit number
  abbrev pub IsNewUnit : ℕ → List (Item T) → Type 0
  IsNewUnit unit items = AllByRecursion (λ item. unit_of item ≢ unit) items

  -- no item is due: each is due after this moment
  abbrev pub NoneIsDue : ℕ → List (Item T) → Type 0
  NoneIsDue now items = AllByRecursion (λ item. now < due_of item) items
