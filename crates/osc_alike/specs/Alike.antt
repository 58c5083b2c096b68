-- Servers that differ in numbers alone, and what they answer.
use Rattle.std.specs.Prelude.{◌≡◌, ◌≢◌, ℕ, List, [], ◌∷◌, ◌++◌, map, None}
use Rattle.osc_pattern.specs.Methods.{Method}
use Rattle.osc_packet.specs.Units.{TimedUnit}
use Rattle.osc_tree.specs.Adding.{Refusal, taken, under_method}
use Rattle.osc_queue.specs.Timed.{due_of}
use Rattle.osc_model.specs.Limits.{Limits}
use Rattle.osc_model.specs.State.{State, Queued}
use Rattle.osc_model.specs.Events.{Event, enrol, Answer, queued, added, refused, removed, released}
use Rattle.osc_model.specs.Events.{Hit}
use Rattle.osc_model.specs.Events.{Invocation, room_in}
use Rattle.osc_model.specs.Step.{Stepped, step, decided}

-- the limits but for the recording's
abbrev pub but_room : Limits → Limits
but_room caps = record caps { recording = 0 }

-- a method's address
abbrev pub address_of : Method → List ℕ
address_of method = method.address

-- a unit without its number
pub record Bare : Type 0 where
  pub due : ℕ
  pub unit : TimedUnit

abbrev pub bare_unit : Queued → Bare
bare_unit unit = record { due = due_of unit; unit = unit.2 }

-- the same limits but for the recording's, the same addresses in the order of adding, the same
-- units in the order of their release, and the same clock
pub record AreAlike (one other : State) : Type 0 where
  pub caps : but_room one.caps ≡ but_room other.caps
  pub methods : map address_of one.methods ≡ map address_of other.methods
  pub queue : map bare_unit one.queue ≡ map bare_unit other.queue
  pub clock : one.clock ≡ other.clock

-- an answer without ids and units' numbers
abbrev pub bare_refusal : Refusal → Refusal
bare_refusal (taken id) = taken 0
bare_refusal (under_method id) = under_method 0
bare_refusal refusal = refusal

abbrev pub bare_hit : Hit → Hit
bare_hit hit = record { index = hit.index; id = 0 }

abbrev pub bare_answer : Answer → Answer
bare_answer (queued first count late) = queued 0 count late
bare_answer (added id) = added 0
bare_answer (refused why) = refused (bare_refusal why)
bare_answer (removed id) = removed 0
bare_answer (released unit hits) = released 0 (map bare_hit hits)
bare_answer answer = answer

-- an invocation without them: which message of the unit, the address, and the message
abbrev pub bare_call : Invocation → Invocation
bare_call invocation = record {
  unit = 0;
  call = record {
    index = invocation.call.index;
    id = 0;
    address = invocation.call.address;
    message = invocation.call.message;
  };
}

-- the same answer, but to an enrolment; the same invocations; and states that are alike
pub record StepAlike (event : Event) (one other : Stepped) : Type 0 where
  pub answer : event ≢ enrol → bare_answer one.answer ≡ bare_answer other.answer
  pub invocations : map bare_call one.invocations ≡ map bare_call other.invocations
  pub state : AreAlike one.state other.state

-- events one after another, each of which finds room in the recording
abbrev pub HaveRoom : State → List Event → Type 0
HaveRoom state [] = Unit {0}
HaveRoom state (event ∷ events) = (room_in (step state event).answer ≡ None)
    × HaveRoom (step state event).state events

-- what they invoke
abbrev pub invoked_by : State → List Event → List Invocation
invoked_by state [] = []
invoked_by state (event ∷ events) =
    (step state event).invocations ++ invoked_by (step state event).state events

-- where they lead
abbrev pub after_events : State → List Event → State
after_events state [] = state
after_events state (event ∷ events) = after_events (step state event).state events

-- the same events on a server whose recording has no end: what they invoke, and where they lead
abbrev pub ideal_by : State → List Event → List Invocation
ideal_by state [] = []
ideal_by state (event ∷ events) =
    (decided state event).invocations ++ ideal_by (decided state event).state events

abbrev pub ideal_after : State → List Event → State
ideal_after state [] = state
ideal_after state (event ∷ events) = ideal_after (decided state event).state events

-- the same invocations as on the server without end, and a state that is alike
pub record PlaysAlike (ideal real : State) (events : List Event) : Type 0 where
  pub invocations : map bare_call (ideal_by ideal events) ≡ map bare_call (invoked_by real events)
  pub state : AreAlike (ideal_after ideal events) (after_events real events)
