-- How the parts of a performance fit together.
use Rattle.std.specs.Prelude.{◌≡◌, ℕ, ◌+◌, ◌≤◌, [], length, None}
use Rattle.osc_model.specs.State.{State, AreNumbered}
use Rattle.osc_model.specs.Limits.{max_methods, max_recording}
use Rattle.osc_model.specs.Events.{Event, enrol, submit, tick, Answer, record_full}
use Rattle.osc_model.specs.Recordings.{IsRecordable, entry_text}
use Rattle.osc_model.specs.Step.{decided}
use Rattle.osc_model.specs.History.{Legal, Performance, state_of, stepped_in, onward}
use Rattle.osc_record.specs.Writing.{Recording, recording_text, appended}

-- the state but for the recording, of which a server's tables know nothing
abbrev pub tables : State → State
tables state = record state { caps = record state.caps { recording = 0 }; recorded = 0 }

-- the limits and the history of a recording
abbrev pub performance_of : Recording → Performance
performance_of recording = record { caps = recording.caps; history = recording.entries }

-- the recording is of a legal history, whose entries are counted, and owes no hit; and the server
-- is what that left
pub record IsPlaying (server : State) (recorder : Recording) (entries : ℕ) : Type 0 where
  pub legal : Legal recorder.caps recorder.entries
  pub server_is : server ≡ tables (state_of (performance_of recorder))
  pub whole : recorder.begun ≡ None
  pub counted : entries ≡ length recorder.entries

-- how great the numbers of such a server are
pub record AreSmall (server : State) (count : ℕ) : Type 0 where
  pub ids : server.next_id ≤ max_recording
  pub units : server.next_unit ≤ max_recording
  pub numbers : AreNumbered server.next_unit server.queue
  pub callers : server.callers ≤ 1024
  pub methods : server.caps.methods ≤ max_methods
  pub few : count ≤ max_recording

-- an event for whose entry there is no room
pub record IsFull (performance : Performance) (caller : ℕ) (event : Event)
    (need free : ℕ) : Type 0 where
  pub answer : (stepped_in performance event).answer
      ≡ record_full (record { need = need; free = free })
  pub silent : (stepped_in performance event).invocations ≡ []
  pub stays : onward performance caller event ≡ performance

-- an event that is answered, and whose entry is appended
pub record IsPlayed (server : State) (recorder : Recording) (entries caller : ℕ) (event : Event)
    (answer : Answer) : Type 0 where
  pub answer_is : (stepped_in (performance_of recorder) event).answer ≡ answer
  pub invocations : (stepped_in (performance_of recorder) event).invocations
      ≡ (decided server event).invocations
  pub goes_on : onward (performance_of recorder) caller event
      ≡ performance_of
      (appended recorder (record { caller = caller; event = event; answer = answer }))
  pub recordable : IsRecordable caller event answer
  pub fits : length (recording_text recorder) + length (entry_text caller event answer)
      ≤ recorder.caps.recording
  pub playing : IsPlaying (decided server event).state
      (appended recorder (record { caller = caller; event = event; answer = answer })) (entries + 1)

-- an event that neither adds nor removes a method, nor calls one
abbrev pub IsQuiet : Event → Type 0
IsQuiet enrol = Unit {0}
IsQuiet (submit packet) = Unit {0}
IsQuiet (tick now) = Unit {0}
IsQuiet _ = ⊥
