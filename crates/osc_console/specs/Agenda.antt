-- The units that wait for their time tags, and what is shown when they are called.
use Rattle.std.specs.Prelude.{◌≡◌, ℕ, List, [], ◌∷◌, insert, nat_lt, if◌then◌else◌}
use Rattle.std.specs.Prelude.{IsTrue, true, Option, None, Some, MatchBool}
use Rattle.std.specs.List.{position_or_len}
use Rattle.std.specs.declared.net.socket_addr.SocketAddrV4.{SocketAddrV4}
use Rattle.osc_atoms.specs.declared.limits.TheConstants.{MAX_PACKET}
use Rattle.osc_atoms.specs.declared.fault.Fault.{Fault}
use Rattle.osc_packet.specs.Reading.{is_packet, units_read}
use Rattle.osc_packet.specs.Units.{TimedUnit}
use Rattle.osc_live.specs.declared.submission.Submission.{Submission}
use Rattle.osc_model.specs.declared.late.Late.{Late}
use Rattle.osc_shown.specs.declared.answered.Answered.TheVariants.{Due}
use Rattle.osc_shown.specs.declared.arrival.Arrival.{Arrival}
use Rattle.osc_shown.specs.declared.look.Look.{Look}
use Rattle.osc_shown.specs.declared.route.Route.{Route}
use Rattle.osc_shown.specs.Lines.{AddsUnit}
use Rattle.osc_shown.specs.Tails.{waits}
use Rattle.osc_console.specs.Answers.{answer_of}

-- a unit that waits, and who has sent it
pub record Waiter : Type 0 where
  pub sender : Option SocketAddrV4
  pub unit : TimedUnit

-- the messages of the first of these units
abbrev pub first_messages : List TimedUnit → List (List ℕ)
first_messages [] = []
first_messages (unit ∷ units) = unit.messages

-- the unit of this tag that a packet is
abbrev pub unit_in : ℕ → List ℕ → TimedUnit
unit_in tag packet = record { tag = tag; messages = first_messages (units_read packet) }

-- a packet that is this unit and no other
pub record IsPackedUnit (unit : TimedUnit) (packet : List ℕ) : Type 0 where
  pub read : IsTrue (is_packet MAX_PACKET packet)
  pub units : units_read packet ≡ unit ∷ []

abbrev pub IsPacked : ℕ → List ℕ → Type 0
IsPacked tag packet = IsPackedUnit (unit_in tag packet) packet

-- a unit that waits takes its place before the first that is due later
abbrev pub enter : Waiter → List Waiter → List Waiter
enter one waiters =
    insert waiters (position_or_len (λ other. nat_lt one.unit.tag other.unit.tag) waiters) one

-- the units that wait after others, by what was answered to their packet
abbrev pub enter_all : Late → Submission → Option SocketAddrV4 → List TimedUnit → List Waiter
    → List Waiter
enter_all late submission sender [] waiters = waiters
enter_all late submission sender (unit ∷ units) waiters =
    enter_all late submission sender units
    (if waits (answer_of late submission unit.tag)
    then enter (record { sender = sender; unit = unit }) waiters else waiters)

-- the units that wait after others that waited already, of senders that aren't known
abbrev pub expect_all : List TimedUnit → List Waiter → List Waiter
expect_all [] waiters = waiters
expect_all (unit ∷ units) waiters =
    expect_all units (enter (record { sender = None; unit = unit }) waiters)

-- the units that wait after a datagram, which has this fault or none, and to which this was answered
-- or nothing
abbrev pub after_datagram : Late → Option Fault → Option Submission → Option SocketAddrV4
    → List TimedUnit → List Waiter → List Waiter
after_datagram late None (Some given) sender units waiters =
    enter_all late given sender units waiters
after_datagram late _ _ sender units waiters = waiters

-- it was called in a round of this moment
abbrev pub arrival_at : ℕ → Waiter → Arrival
arrival_at moment one = record { moment = Some moment; sender = one.sender }

-- The lines of the units whose time tags aren't after this moment, one after another, each as called
-- at the moment; and the units that are left.
abbrev pub AddsCalled : Look → List Route → ℕ → List Waiter → List Waiter → List ℕ → List ℕ
    → Type 0
AddsCalled look routes moment [] left before after = (left ≡ []) × (after ≡ before)
AddsCalled look routes moment (one ∷ waiters) left before after =
    MatchBool (nat_lt moment one.unit.tag)
    ((left ≡ one ∷ waiters) × (after ≡ before))
    ((mid : List ℕ)
    × AddsUnit look (arrival_at moment one) Due routes one.unit before mid
    × AddsCalled look routes moment waiters left mid after)

-- no unit waits whose time tag isn't after this moment, as the first one shows
abbrev pub BeginsLater : ℕ → List Waiter → Type 0
BeginsLater moment [] = Unit {0}
BeginsLater moment (one ∷ waiters) = nat_lt moment one.unit.tag ≡ true

-- the time tag of the first
abbrev pub first_tag : List Waiter → Option ℕ
first_tag [] = None
first_tag (one ∷ waiters) = Some one.unit.tag
