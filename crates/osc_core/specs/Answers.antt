-- What the calls' answers stand for.
use Rattle.std.specs.Prelude.{◌≡◌, ℕ, List, [], ◌∷◌, length}
use Rattle.osc_tree.specs.Adding.{taken, under_method, is_container, methods_full, nodes_full}
use Rattle.osc_model.specs.Events.{Answer, Hit, number, callers_full, queued, units_full}
use Rattle.osc_model.specs.Events.{pool_full, added, refused, removed, not_there, ticked}
use Rattle.osc_model.specs.Events.{clock_back, released, nothing_due, record_full}
use Rattle.osc_record.specs.Shown.{room_of}
use Rattle.osc_core.specs.declared.answers.Enrolled.{Enrolled}
use Rattle.osc_core.specs.declared.answers.Enrolled.TheVariants as enrolled
use Rattle.osc_core.specs.declared.answers.Submitted.{Submitted}
use Rattle.osc_core.specs.declared.answers.Submitted.TheVariants as submitted
use Rattle.osc_core.specs.declared.answers.AddRefusal.{AddRefusal}
use Rattle.osc_core.specs.declared.answers.AddRefusal.TheVariants as adding
use Rattle.osc_core.specs.declared.answers.Adding.{Adding}
use Rattle.osc_core.specs.declared.answers.Adding.TheVariants.{Added, Refused}
use Rattle.osc_core.specs.declared.answers.Removing.{Removing}
use Rattle.osc_core.specs.declared.answers.Removing.TheVariants as removing
use Rattle.osc_core.specs.declared.answers.Ticking.{Ticking}
use Rattle.osc_core.specs.declared.answers.Ticking.TheVariants as ticking
use Rattle.osc_core.specs.declared.answers.Releasing.{Releasing}
use Rattle.osc_core.specs.declared.answers.Releasing.TheVariants as releasing

-- the answer to an enrolment
abbrev pub enrolled_of : Enrolled → Answer
enrolled_of (enrolled.Number caller) = number caller
enrolled_of (enrolled.RecordFull room) = record_full (room_of room)
enrolled_of enrolled.CallersFull = callers_full

-- the answer to a submit
abbrev pub submitted_of : Submitted → Answer
submitted_of (submitted.Queued first count late) = queued first count late
submitted_of (submitted.RecordFull room) = record_full (room_of room)
submitted_of (submitted.UnitsFull room) = units_full (room_of room)
submitted_of (submitted.PoolFull room) = pool_full (room_of room)

-- the answer to an add that is refused
abbrev pub refusal_of : AddRefusal → Answer
refusal_of (adding.RecordFull room) = record_full (room_of room)
refusal_of (adding.Taken id) = refused (taken id)
refusal_of (adding.UnderMethod id) = refused (under_method id)
refusal_of adding.IsContainer = refused is_container
refusal_of (adding.MethodsFull limit) = refused (methods_full limit)
refusal_of (adding.NodesFull room) = refused (nodes_full room.need room.free)

module _ {M : Type 0} where
  -- the answer to an add
  abbrev pub adding_of : Adding M → Answer
  adding_of (Added id) = added id
  adding_of (Refused why address method) = refusal_of why

  -- where a method is added, this holds of its id
  abbrev pub OnAdded : Adding M → (ℕ → Type 0) → Type 0
  OnAdded (Added id) holds = holds id
  OnAdded (Refused why address method) holds = Unit {0}

  -- where an add is refused, this holds of the address and the box that come back
  abbrev pub OnRefused : Adding M → (List ℕ → M → Type 0) → Type 0
  OnRefused (Added id) holds = Unit {0}
  OnRefused (Refused why address method) holds = holds address method

  -- the box of an add that was refused
  abbrev pub handed_back : Adding M → List M
  handed_back (Added id) = []
  handed_back (Refused why address method) = method ∷ []

  -- the answer to a removal
  abbrev pub removing_of : Removing M → Answer
  removing_of (removing.Removed id method) = removed id
  removing_of (removing.RecordFull room) = record_full (room_of room)
  removing_of removing.NotThere = not_there

  -- where a method is removed, this holds of its id and its box
  abbrev pub OnRemoved : Removing M → (ℕ → M → Type 0) → Type 0
  OnRemoved (removing.Removed id method) holds = holds id method
  OnRemoved _ holds = Unit {0}

  -- the box of a method that was removed, with its id
  abbrev pub handed_out : Removing M → List (ℕ × M)
  handed_out (removing.Removed id method) = (id, method) ∷ []
  handed_out _ = []

  -- where nothing is removed, this holds
  abbrev pub OnKept : Removing M → Type 0 → Type 0
  OnKept (removing.Removed id method) holds = Unit {0}
  OnKept _ holds = holds

-- the answer to a tick
abbrev pub ticking_of : Ticking → Answer
ticking_of ticking.Ticked = ticked
ticking_of (ticking.RecordFull room) = record_full (room_of room)
ticking_of (ticking.ClockBack clock) = clock_back clock

-- what a release is told of an answer: of the hits it is told how many there are
abbrev pub TellsRelease : Releasing → Answer → Type 0
TellsRelease (releasing.Released unit calls) answer =
    (hits : List Hit) × (answer ≡ released unit hits) × (calls ≡ length hits)
TellsRelease (releasing.NothingDue next) answer = answer ≡ nothing_due next
TellsRelease (releasing.RecordFull room) answer = answer ≡ record_full (room_of room)

-- where a unit is released, this holds of its number
abbrev pub OnReleased : Releasing → (ℕ → Type 0) → Type 0
OnReleased (releasing.Released unit calls) holds = holds unit
OnReleased _ holds = Unit {0}

-- where no unit is released, this holds
abbrev pub OnWaiting : Releasing → Type 0 → Type 0
OnWaiting (releasing.Released unit calls) holds = Unit {0}
OnWaiting _ holds = holds
