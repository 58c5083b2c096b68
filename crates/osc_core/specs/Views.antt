-- Inside the crate: what the parts of a server stand for.
use Rattle.osc_packet.specs.declared.limits.TheConstants.{MAX_STORED}
use Rattle.std.specs.Prelude.{◌≡◌, ℕ, ◌<◌, ◌≤◌, List, [], ◌∷◌, length, map, All, Option, Some, None}
use Rattle.std.specs.Prelude.{vec_capacity, true}
use Rattle.std.specs.List.{AllByRecursion}
use Rattle.osc_packet.specs.Units.{TimedUnit, blocks}
use Rattle.osc_pool.specs.Holding.{used_blocks}
use Rattle.osc_queue.specs.Timed.{Item, due_of, unit_of}
use Rattle.osc_tree.specs.Registry.{Registry, IsLawful}
use Rattle.osc_tree.specs.Matching.{HitList}
use Rattle.osc_model.specs.State.{Queued, AreNumbered}
use Rattle.osc_model.specs.Counts.{queued_blocks}
use Rattle.osc_model.specs.Step.{is_kept, waiting}
use Rattle.osc_model.specs.declared.late.Late.{Late}
use Rattle.osc_core.specs.declared.store.Stored.{Stored}
use Rattle.osc_core.specs.declared.backlog.Lone.{Lone}
use Rattle.osc_core.specs.declared.backlog.Backlog.{Backlog}
use Rattle.osc_core.specs.Frames.{messages_in, AreFramed}
use Rattle.osc_core.specs.Stored.{unit_in, AreStored}

-- a queued unit
abbrev pub queued_of : List (List ℕ) → Item Stored → Queued
queued_of held item = (due_of item, unit_of item, unit_in held item.2)

-- the queued units, in order
abbrev pub queue_of : List (List ℕ) → List (Item Stored) → List Queued
queue_of held items = map (queued_of held) items

-- the units of the items are stored, and nothing else takes blocks
pub record AreKept (held : List (List ℕ)) (items : List (Item Stored)) : Type 0 where
  pub stored : AreStored held items
  pub counted : used_blocks held ≡ queued_blocks (queue_of held items)

-- the same, and the items' numbers were given
pub record AreQueued (held : List (List ℕ)) (items : List (Item Stored)) (next : ℕ) : Type 0 where
  pub kept : AreKept held items
  pub numbers : AllByRecursion (λ item. unit_of item < next) items

-- the methods are a lawful list, their ids were given, and the hits have room for all of them
pub record AreRegistered (tree : Registry) (hits : HitList) (next : ℕ) : Type 0 where
  pub lawful : IsLawful tree
  pub ids : All (λ method. method.id < next) tree.methods
  pub room : tree.method_limit ≤ hits.limit

-- a unit that waits alone, whose messages are in the bytes
abbrev pub lone_of : Lone → List ℕ → Queued
lone_of lone bytes = (lone.due, lone.unit, record { tag = lone.tag; messages = messages_in bytes })

-- the units that wait, in order: the one that waits alone, or the queued ones
abbrev pub waiting_units : Option Lone → List ℕ → List (List ℕ) → List (Item Stored) → List Queued
waiting_units (Some lone) bytes held items = lone_of lone bytes ∷ []
waiting_units None bytes held items = queue_of held items

abbrev pub units_of : Backlog → List Queued
units_of w = waiting_units w.lone w.bytes.items w.store w.queue.items

-- a unit that waits alone takes a place and a block, which are there, and none is queued
pub record IsAlone (bytes : List ℕ) (items : List (Item Stored)) (places blocks : ℕ) : Type 0 where
  pub framed : AreFramed bytes
  pub some : 0 < length bytes
  pub small : length bytes ≤ 64
  pub none : items ≡ []
  pub place : 0 < places
  pub block : 0 < blocks

abbrev pub MayBeAlone : Option Lone → List ℕ → List (Item Stored) → ℕ → ℕ → Type 0
MayBeAlone (Some lone) bytes items places blocks = IsAlone bytes items places blocks
MayBeAlone None bytes items places blocks = Unit {0}

-- what holds the units that wait fits together, and there is room for the messages of one
pub record AreWaiting (w : Backlog) : Type 0 where
  pub kept : AreKept w.store w.queue.items
  pub alone : MayBeAlone w.lone w.bytes.items w.queue.items w.queue.limit (length w.store)
  pub room : MAX_STORED ≤ vec_capacity w.bytes

-- no unit waits, and there are a place and a block for one
pub record IsUnused (w : Backlog) : Type 0 where
  pub lone : w.lone ≡ None
  pub none : w.queue.items ≡ []
  pub place : 0 < w.queue.limit
  pub block : 0 < length w.store

-- the only unit of a packet is kept, and waits alone under this number
pub record StandsAlone (late : Late) (clock number : ℕ) (units : List TimedUnit)
    (old new : Backlog) : Type 0 where
  pub unused : IsUnused old
  pub unit : TimedUnit
  pub only : units ≡ unit ∷ []
  pub keeps : is_kept late clock unit ≡ true
  pub one : blocks unit ≡ 1
  pub stands : units_of new ≡ waiting clock number unit ∷ []

-- the first of the units is due at this moment, and has this number
abbrev pub BeginsWith : ℕ → ℕ → List Queued → Type 0
BeginsWith due unit [] = ⊥
BeginsWith due unit (first ∷ others) = (due ≡ due_of first) × (unit ≡ unit_of first)

-- the first of the units is due
abbrev pub FirstIsDue : ℕ → List Queued → Type 0
FirstIsDue now [] = ⊥
FirstIsDue now (first ∷ others) = due_of first ≤ now

-- its messages
abbrev pub first_messages : List Queued → List (List ℕ)
first_messages [] = []
first_messages (first ∷ others) = first.2.messages

-- the parts of a server fit together
pub record IsRunning (tree : Registry) (hits : HitList) (waiting : Backlog)
    (next_id next_unit callers caller_limit : ℕ) : Type 0 where
  pub methods : AreRegistered tree hits next_id
  pub units : AreWaiting waiting
  pub numbers : AreNumbered next_unit (units_of waiting)
  pub few_callers : callers ≤ caller_limit
