-- Inside the crate: the result of an event in a plain server.
use Rattle.std.specs.Prelude.{◌≡◌, ◌≢◌, ℕ, ◌<◌, ◌≤◌, ◌%◌, true, false, List, [], ◌++◌, length}
use Rattle.std.specs.List.{flat_map}
use Rattle.osc_print.specs.Entries.{event_line, invocation_text}
use Rattle.osc_queue.specs.Timed.{TimedQueue}
use Rattle.osc_packet.specs.Units.{TimedUnit}
use Rattle.osc_tree.specs.Registry.{Registry}
use Rattle.osc_tree.specs.Matching.{HitList}
use Rattle.osc_model.specs.State.{State}
use Rattle.osc_model.specs.Counts.{queued_blocks}
use Rattle.osc_model.specs.Events.{Event, release, Answer, Entry, released, adds_entry}
use Rattle.osc_model.specs.Recordings.{hits_in}
use Rattle.osc_model.specs.Step.{decided, step}
use Rattle.osc_model.specs.History.{Performance, Legal, AddsEntry, state_of}
use Rattle.osc_record.specs.declared.event.Answer.{Answer as Given}
use Rattle.osc_record.specs.Shown.{answer_of, HasWholeHits}
use Rattle.osc_replay.specs.declared.calls.Calls.{Calls}
use Rattle.osc_replay.specs.declared.fault.ReplayFault.{ReplayFault}
use Rattle.osc_replay.specs.declared.fault.ReplayFault.TheVariants.{Malformed, Disagrees, NoMemory}
use Rattle.osc_replay.specs.declared.outcome.Outcome.{Outcome}
use Rattle.osc_replay.specs.declared.outcome.Outcome.TheVariants.{Answered, Released, Nothing}
use Rattle.osc_replay.specs.Calls.{line_where}
use Rattle.osc_replay.specs.Disagreeing.{computed_text}

-- the hits have room for the ids of all methods, and the blocks of the queued units are counted
pub record IsRunning (tree : Registry) (hits : HitList) (queue : TimedQueue TimedUnit)
    (used : ℕ) : Type 0 where
  pub room : tree.method_limit ≤ hits.limit
  pub counted : used ≡ queued_blocks queue.items

-- the answer and the state that the rules give, as long as there is room for the entry; nothing is
-- invoked
pub record Decides (answer : Given) (old : State) (event : Event) (new : State) : Type 0 where
  pub answer_is : answer_of answer ≡ (decided old event).answer
  pub whole : HasWholeHits answer
  pub state_is : new ≡ (decided old event).state
  pub silent : (decided old event).invocations ≡ []
  pub adds : adds_entry (answer_of answer) ≡ true
  pub recorded : new.recorded ≡ old.recorded

-- an entry with the answer that the rules give, the lines of its invocations, and the state after
-- it
pub record Enters (answer : Answer) (lines : List ℕ) (old : State) (event : Event)
    (new : State) : Type 0 where
  pub answer_is : answer ≡ (step old event).answer
  pub adds : adds_entry (step old event).answer ≡ true
  pub state_is : new ≡ (step old event).state
  pub lines_are : lines ≡ flat_map invocation_text (step old event).invocations

-- the entry of a release of a unit, whose calls these are, with their lines where they are printed
abbrev pub EntersRelease : ℕ → Calls → State → State → Type 0
EntersRelease unit calls old new =
    (length calls.hits.items % 8 ≡ 0)
    × Enters (released unit (hits_in calls.hits.items))
    (flat_map invocation_text (step old release).invocations) old release new
    × (calls.lines ≡ flat_map (line_where calls.prints) (step old release).invocations)

-- the result of an event that isn't a release where its caller is enrolled
abbrev pub Does : Outcome → State → Event → State → Type 0
Does (Answered answer) old event new =
    HasWholeHits answer × Enters (answer_of answer) [] old event new
Does (Released unit) old event new = ⊥
Does Nothing old event new = adds_entry (step old event).answer ≡ false

-- the result of a release where its caller is enrolled
abbrev pub Releases : Outcome → Calls → State → State → Type 0
Releases (Answered answer) calls old new = ⊥
Releases (Released unit) calls old new = EntersRelease unit calls old new
Releases Nothing calls old new = adds_entry (step old release).answer ≡ false

-- the result of an event of any caller
abbrev pub ComesTo : Outcome → Calls → ℕ → State → Event → State → Type 0
ComesTo (Answered answer) calls caller old event new =
    (caller < old.callers) × HasWholeHits answer × Enters (answer_of answer) [] old event new
ComesTo (Released unit) calls caller old event new =
    (caller < old.callers) × (event ≡ release) × EntersRelease unit calls old new
ComesTo Nothing calls caller old event new = computed_text old caller event ≡ []

-- a server with these limits played a legal history to this state
pub record IsReached (state : State) : Type 0 where
  pub performance : Performance
  pub legal : Legal performance.caps performance.history
  pub is : state ≡ state_of performance

-- a server plays an entry as it is recorded, and prints it
pub record Goes (entry : Entry) (old new : State) (printed after : List ℕ) : Type 0 where
  pub enrolled : entry.caller < old.callers
  pub adds : AddsEntry entry.answer
  pub answer_is : entry.answer ≡ (step old entry.event).answer
  pub state_is : new ≡ (step old entry.event).state
  pub text : after
      ≡ printed ++ (event_line entry ++ flat_map invocation_text (step old entry.event).invocations)

-- why an entry isn't played: its bytes that are kept aren't those that are computed, or there is no
-- memory
abbrev pub Differs : ReplayFault → ℕ → List ℕ → List ℕ → Type 0
Differs (Malformed at) number kept computed = ⊥
Differs (Disagrees entry recorded given) number kept computed =
    (entry ≡ number) × (recorded ≡ kept) × (given ≡ computed) × (kept ≢ computed)
Differs NoMemory number kept computed = Unit {0}
