-- What a handle of C holds, and what an event does there.
use Rattle.std.specs.Prelude.{◌≡◌, ℕ, nat_lt, if◌then◌else◌, List, [], map, Option, Some, None}
use Rattle.std.specs.Option.{option_map}
use Rattle.osc_atoms.specs.declared.fault.Fault.{Fault}
use Rattle.osc_pattern.specs.declared.faults.AddressFault.{AddressFault}
use Rattle.osc_model.specs.Events.{Event, submit, add, remove, release}
use Rattle.osc_model.specs.Recordings.{record_text}
use Rattle.osc_model.specs.Releases.{IsLeastDue}
use Rattle.osc_model.specs.History.{Performance, state_of, stepped_in, onward}
use Rattle.osc_c.specs.declared.answer.Answer.{Answer}
use Rattle.osc_c.specs.declared.state.State.{State}
use Rattle.osc_c.specs.Answers.{bare, shown, due_answer, faulty}
use Rattle.osc_c.specs.Opening.{address_number}
use Rattle.osc_core.specs.Invoked.{Call, call_of}
use Rattle.osc_c.specs.Reading.{left_of, TellsNext}
use Rattle.osc_c.specs.declared.called.Called.{Called}

-- what it has played, where it is open
abbrev pub played : Option State → Option Performance
played held = option_map (λ state. state.core.performance) held

-- what an event is answered
abbrev pub answered : Option Performance → Event → Answer
answered None event = bare 16
answered (Some performance) event = shown (stepped_in performance event).answer

-- what it has played after a caller's event
abbrev pub after : Option Performance → ℕ → Event → Option Performance
after performance caller event = option_map (λ p. onward p caller event) performance

-- what a submit of bytes is answered, by the fault that they have, if they are no packet
abbrev pub submit_answered : Option Fault → Option Performance → List ℕ → Answer
submit_answered (Some fault) None bytes = bare 16
submit_answered (Some fault) (Some performance) bytes = faulty fault
submit_answered None performance bytes = answered performance (submit bytes)

-- what is played after it
abbrev pub after_submit : Option Fault → Option Performance → ℕ → List ℕ → Option Performance
after_submit (Some fault) performance caller bytes = performance
after_submit None performance caller bytes = after performance caller (submit bytes)

-- what an event that has an address is answered, by the fault that it has, if it has one
abbrev pub address_answered : Option AddressFault → Option Performance → Event → Answer
address_answered (Some fault) None event = bare 16
address_answered (Some fault) (Some performance) event = address_number fault
address_answered None performance event = answered performance event

abbrev pub after_address : Option AddressFault → Option Performance → ℕ → Event → Option Performance
after_address (Some fault) performance caller event = performance
after_address None performance caller event = after performance caller event

abbrev pub add_answered : Option AddressFault → Option Performance → List ℕ → Answer
add_answered fault performance address = address_answered fault performance (add address)

abbrev pub after_add : Option AddressFault → Option Performance → ℕ → List ℕ → Option Performance
after_add fault performance caller address = after_address fault performance caller (add address)

abbrev pub remove_answered : Option AddressFault → Option Performance → List ℕ → Answer
remove_answered fault performance address = address_answered fault performance (remove address)

abbrev pub after_remove : Option AddressFault → Option Performance → ℕ → List ℕ → Option Performance
after_remove fault performance caller address =
    after_address fault performance caller (remove address)

-- what a caller's event is answered: that the server is closed, that the caller isn't enrolled, or
-- else this
abbrev pub answered_to : Option Performance → ℕ → Answer → Answer
answered_to None caller answer = bare 16
answered_to (Some performance) caller answer =
    if nat_lt caller (state_of performance).callers then answer else bare 21

-- what is there after a caller's event: this, where the caller is enrolled with an open server, and
-- else what was there before
abbrev pub done_by : {X : Type 0} → Option Performance → ℕ → X → X → X
done_by None caller next before = before
done_by (Some performance) caller next before =
    if nat_lt caller (state_of performance).callers then next else before

-- what is answered of the moment at which the next unit is due: that of the least that waits, where
-- one does
abbrev pub TellsDue : Option Performance → Answer → Type 0
TellsDue None answer = answer ≡ bare 16
TellsDue (Some performance) answer =
    (due : Option ℕ) × IsLeastDue (state_of performance).queue due × (answer ≡ due_answer due)

-- its recording
abbrev pub recording_in : Option Performance → List ℕ
recording_in None = []
recording_in (Some performance) = record_text performance.caps performance.history

-- the calls that are left to be read
abbrev pub left : Option State → List Call
left None = []
left (Some state) = left_of state

-- the calls of a release
abbrev pub released_in : Option Performance → List Call
released_in None = []
released_in (Some performance) = map call_of (stepped_in performance release).invocations

-- what a reading of the next call tells
abbrev pub NextOf : Option State → Option State → ℕ → Called → Called → List ℕ → List ℕ → Type 0
NextOf None held status given call before buffer =
    (status ≡ 16) × (call ≡ given) × (buffer ≡ before)
NextOf (Some state) held status given call before buffer =
    TellsNext (left_of state) (left held) status given call before buffer
