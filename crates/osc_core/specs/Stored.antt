-- Inside the crate: how the messages of queued units are stored, each unit's in a chain of its own.
use Rattle.osc_packet.specs.declared.limits.TheConstants.{MAX_STORED}
use Rattle.osc_atoms.specs.declared.limits.TheConstants.{MAX_BYTES}
use Rattle.std.specs.Prelude.{◌≡◌, ℕ, ◌≤◌, IsTrue, List, [], ◌∷◌}
use Rattle.std.specs.List.{AllByRecursion, list_all}
use Rattle.osc_message.specs.Reading.{is_message}
use Rattle.osc_packet.specs.Units.{TimedUnit, stored_size}
use Rattle.osc_pool.specs.Holding.{held_by, IsLive, AreApart}
use Rattle.osc_queue.specs.Timed.{Item}
use Rattle.osc_core.specs.declared.store.Stored.{Stored}
use Rattle.osc_core.specs.Frames.{framed, messages_in}

-- a unit that is stored: its tag, and the messages that its chain holds
abbrev pub unit_in : List (List ℕ) → Stored → TimedUnit
unit_in held stored = record {
  tag = stored.tag;
  messages = messages_in (held_by stored.chain held);
}

-- the unit's chain is live, and holds messages that can be read, each after its length
pub record IsStored (held : List (List ℕ)) (stored : Stored) : Type 0 where
  pub messages : List (List ℕ)
  pub live : IsLive stored.chain held
  pub holds : held_by stored.chain held ≡ framed messages
  pub read : IsTrue (list_all (is_message MAX_BYTES) messages)
  pub small : stored_size messages ≤ MAX_STORED

-- each unit is stored, and no two have one chain
abbrev pub AreStored : List (List ℕ) → List (Item Stored) → Type 0
AreStored held [] = Unit {0}
AreStored held (item ∷ items) = IsStored held item.2
    × AllByRecursion (λ other. AreApart item.2.chain other.2.chain) items × AreStored held items
