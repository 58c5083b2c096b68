-- Histories: the entries of a server, in order.
use Rattle.osc_atoms.specs.declared.limits.TheConstants.{MAX_PACKET}
use Rattle.std.specs.Prelude.{◌≡◌, ℕ, ◌<◌, ◌≤◌, ◌^◌, IsTrue, if◌then◌else◌, List, [], ◌∷◌, ◌++◌}
use Rattle.std.specs.Prelude.{length, map, All}
use Rattle.std.specs.List.{AllByRecursion, Contains}
use Rattle.std.specs.Option.{option_map}
use Rattle.osc_pattern.specs.Addresses.{is_address}
use Rattle.osc_packet.specs.Reading.{is_packet}
use Rattle.osc_queue.specs.Timed.{IsInOrder}
use Rattle.osc_tree.specs.Registry.{IsLawful as IsLawfulRegistry}
use Rattle.osc_model.specs.State.{State, Queued, AreNumbered, opening, registry}
use Rattle.osc_model.specs.Limits.{Limits, AreInRange, header_size}
use Rattle.osc_model.specs.Counts.{queued_blocks}
use Rattle.osc_model.specs.Events.{Event, enrol, submit, add, remove, tick, release, Answer}
use Rattle.osc_model.specs.Events.{nothing_due, record_full, Entry, adds_entry, Invocation}
use Rattle.osc_model.specs.Heard.{Told, heard_of}
use Rattle.osc_model.specs.Step.{Stepped, step}
use Rattle.osc_model.specs.Releases.{IsCallIn}

-- what a caller can hand in: a valid packet of at most 65,504 bytes, a lawful address, or a moment
-- below 2^64
abbrev pub IsLawful : Event → Type 0
IsLawful enrol = Unit {0}
IsLawful (submit packet) = IsTrue (is_packet MAX_PACKET packet)
IsLawful (add address) = IsTrue (is_address address)
IsLawful (remove address) = IsTrue (is_address address)
IsLawful (tick now) = now < 2 ^ 64
IsLawful release = Unit {0}

-- all answers but these two add an entry
abbrev pub AddsEntry : Answer → Type 0
AddsEntry (nothing_due next) = ⊥
AddsEntry (record_full room) = ⊥
AddsEntry _ = Unit {0}

-- from a state on, each entry is of a caller that is enrolled, and has the answer that the rules
-- give on the state after those before it
abbrev pub LegalFrom : State → List Entry → Type 0
LegalFrom state [] = Unit {0}
LegalFrom state (entry ∷ entries) =
    (entry.caller < state.callers) × IsLawful entry.event × AddsEntry entry.answer
    × (entry.answer ≡ (step state entry.event).answer)
    × LegalFrom (step state entry.event).state entries

-- a history of a server with these limits, from its opening on
abbrev pub Legal : Limits → List Entry → Type 0
Legal caps entries = AreInRange caps × LegalFrom (opening caps) entries

-- the state after a history
abbrev pub after : State → List Entry → State
after state [] = state
after state (entry ∷ entries) = after (step state entry.event).state entries

-- the invocations of a history, one after another
abbrev pub invocations : State → List Entry → List Invocation
invocations state [] = []
invocations state (entry ∷ entries) =
    (step state entry.event).invocations ++ invocations (step state entry.event).state entries

-- What holds of a server at every moment: the limits are in their ranges; the methods are a lawful
-- list within them, whose ids were given; the units stand in order, with numbers that were given,
-- within the limits; and there is at least one caller, and no more than there may be.
pub record IsSound (state : State) : Type 0 where
  pub caps : AreInRange state.caps
  pub methods : IsLawfulRegistry (registry state)
  pub ids : All (λ method. method.id < state.next_id) state.methods
  pub ordered : IsInOrder state.queue
  pub numbers : AreNumbered state.next_unit state.queue
  pub few_units : length state.queue ≤ state.caps.units
  pub few_blocks : queued_blocks state.queue ≤ state.caps.blocks
  pub callers : (1 ≤ state.callers) × (state.callers ≤ state.caps.callers)

-- What holds of the numbers of a server at every moment: the bytes that are recorded lie between
-- the header's and the limit, and there are at least as many as ids and as units' numbers were
-- given.
pub record IsCounted (state : State) : Type 0 where
  pub header : header_size ≤ state.recorded
  pub within : state.recorded ≤ state.caps.recording
  pub ids : state.next_id ≤ state.recorded
  pub units : state.next_unit ≤ state.recorded

-- An invocation of a history: at some place stands a release, and the invocation is a call of a
-- unit that was queued then, in the state after the entries before that place.
pub record IsInvokedIn (state : State) (history : List Entry)
    (invocation : Invocation) : Type 0 where
  pub before : List Entry
  pub entry : Entry
  pub later : List Entry
  pub place : history ≡ before ++ entry ∷ later
  pub releases : entry.event ≡ release
  pub unit : Queued
  pub queued : Contains (after state before).queue unit
  pub call : IsCallIn (after state before) unit invocation

-- what a server has played: its limits, and its history
pub record Performance : Type 0 where
  pub caps : Limits
  pub history : List Entry

-- the state in which it is
abbrev pub state_of : Performance → State
state_of performance = after (opening performance.caps) performance.history

-- all that it has invoked
abbrev pub invoked_in : Performance → List Invocation
invoked_in performance = invocations (opening performance.caps) performance.history

-- what an event does in its state
abbrev pub stepped_in : Performance → Event → Stepped
stepped_in performance event = step (state_of performance) event

-- it goes on with the entry of a caller's event, where its answer adds one
abbrev pub onward : Performance → ℕ → Event → Performance
onward performance caller event =
    let answer = (stepped_in performance event).answer in
    if adds_entry answer
    then record performance {
      history = performance.history
          ++ record { caller = caller; event = event; answer = answer } ∷ [];
    } else performance

-- what a registered method has heard: the last bytes of the calls of its id, where it tells
abbrev pub HasHeard : List Invocation → Told → Type 0
HasHeard invocations told =
    told.heard ≡ option_map (λ _. heard_of invocations told.id told.keep.most) told.heard

-- there is a box for each registered method, in the order of adding, and each has heard its calls
pub record HaveHeard (performance : Performance) (boxes : List Told) : Type 0 where
  pub ids : map (λ box. box.id) boxes ≡ map (λ method. method.id) (state_of performance).methods
  pub heard : AllByRecursion (HasHeard (invoked_in performance)) boxes
