-- What holds of each unit that waits.
use Rattle.osc_atoms.specs.declared.limits.TheConstants.{MAX_PACKET}
use Rattle.std.specs.Prelude.{◌≡◌, ℕ, ◌+◌, ◌≤◌, ◌<◌, ◌^◌, ◌⊎◌, max, true, List, [], ◌∷◌, length}
use Rattle.std.specs.List.{AllByRecursion}
use Rattle.osc_atoms.specs.Atoms.{AreBytes}
use Rattle.osc_packet.specs.Units.{TimedUnit, stored_size}
use Rattle.osc_packet.specs.Bundling.{IsSpelled}
use Rattle.osc_packet.specs.Packets.{bundle_head}
use Rattle.osc_queue.specs.Timed.{due_of}
use Rattle.osc_model.specs.declared.late.Late.{Late}
use Rattle.osc_model.specs.State.{State, Queued}
use Rattle.osc_model.specs.Events.{Event, submit, Entry}
use Rattle.osc_model.specs.Step.{is_kept}

-- its bundle is no larger than a packet may be, or it is one message of tag 1
abbrev pub IsShort : TimedUnit → Type 0
IsShort unit =
    (bundle_head + stored_size unit.messages ≤ MAX_PACKET)
    ⊎ ((message : List ℕ) × (unit.tag ≡ 1) × (unit.messages ≡ message ∷ [])
    × (length message ≤ MAX_PACKET))

-- its tag has 64 bits, its messages are messages and of bytes, and it can be sent by itself
pub record CanBeSent (unit : TimedUnit) : Type 0 where
  pub fits : unit.tag < 2 ^ 64
  pub spelled : AllByRecursion IsSpelled unit.messages
  pub small : AllByRecursion AreBytes unit.messages
  pub short : IsShort unit

-- it came at some clock up to this one, was kept then, and is due from its tag or that clock on
pub record IsWaiting (late : Late) (clock : ℕ) (unit : Queued) : Type 0 where
  pub came : ℕ
  pub opened : 1 ≤ came
  pub past : came ≤ clock
  pub due : due_of unit ≡ max unit.2.tag came
  pub kept : is_kept late came unit.2 ≡ true
  pub sent : CanBeSent unit.2

-- the clock has 64 bits, and this holds of each unit that waits
pub record AreWaiting (state : State) : Type 0 where
  pub opened : 1 ≤ state.clock
  pub fits : state.clock < 2 ^ 64
  pub each : AllByRecursion (IsWaiting state.caps.late state.clock) state.queue

-- a packet is of bytes, as each is that comes from outside
abbrev pub IsOfBytes : Event → Type 0
IsOfBytes (submit packet) = AreBytes packet
IsOfBytes _ = Unit {0}

abbrev pub AreOfBytes : List Entry → Type 0
AreOfBytes history = AllByRecursion (λ entry. IsOfBytes entry.event) history

-- the size of each message has 32 bits
abbrev pub AreShort : List (List ℕ) → Type 0
AreShort messages = AllByRecursion (λ message. length message < 2 ^ 32) messages

abbrev pub HaveShort : List Queued → Type 0
HaveShort units = AllByRecursion (λ unit. AreShort unit.2.messages) units
