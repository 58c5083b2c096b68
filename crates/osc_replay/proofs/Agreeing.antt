-- Entries whose answers are kept, and computed.
use Rattle.std.proofs.Common.{◌≡◌, ◌≢◌, ℕ, ◌<◌, ◌≤◌, Bool, true, List, [], ◌++◌, length, Ok, Err, Result, OnOk, refl, sym, ap, subst, ◌∙◌, arith, lt-ltb}
use Rattle.std.proofs.lemmas.Bool.{cond-true}
use Rattle.std.specs.Prelude.{IfErr}
use Rattle.std.specs.List.{flat_map}
use Rattle.osc_print.specs.Entries.{event_line, invocation_text}
use Rattle.osc_model.specs.State.{State}
use Rattle.osc_model.specs.Events.{Event, release, Answer, released, Entry, adds_entry}
use Rattle.osc_model.specs.Recordings.{IsRecordable, entry_text, hits_in}
use Rattle.osc_model.specs.Step.{step}
use Rattle.osc_model.specs.History.{IsLawful}
use Rattle.osc_model.proofs.Onward.{adds_is}
use Rattle.osc_record.proofs.Kept.{entry_some}
use Rattle.osc_record.specs.declared.event.Answer.{Answer as Given}
use Rattle.osc_record.specs.Left.{placed_of}
use Rattle.osc_record.specs.Shown.{event_of, answer_of, HasWholeHits}
use Rattle.osc_replay.specs.declared.fault.ReplayFault.{ReplayFault}
use Rattle.osc_replay.specs.declared.fault.ReplayFault.TheVariants.{Disagrees}
use Rattle.osc_replay.specs.declared.calls.Calls.{Calls}
use Rattle.osc_replay.specs.declared.outcome.Outcome.{Outcome}
use Rattle.osc_replay.specs.declared.outcome.Outcome.TheVariants.{Answered, Released, Nothing}
use Rattle.osc_replay.specs.declared.row.Row.{Row}
use Rattle.osc_replay.specs.Events.{event_in}
use Rattle.osc_replay.specs.Calls.{line_where}
use Rattle.osc_replay.specs.Disagreeing.{computed_text}
use Rattle.osc_replay.proofs.Formed.{Recordable, row_lawful}
use Rattle.osc_replay.specs.Playing.{IsReached, ComesTo, Differs, Enters, EntersRelease, Goes}
use Rattle.osc_replay.proofs.Reached.{NextFits, GoesOn, StaysWithin, recordable, entry_small}

-- What is computed for an enrolled caller.

pub computed_is : (state : State) (caller : ℕ) (event : Event) (answer : Answer) → caller < state.callers → answer ≡ (step state event).answer
    → adds_entry (step state event).answer ≡ true → computed_text state caller event ≡ entry_text caller event answer
computed_is state caller event answer enrolled is adds =
    cond-true _ _ _ (lt-ltb caller state.callers enrolled) ∙ cond-true _ _ _ adds ∙ ap (entry_text caller event) (sym is)

-- two facts of a value that is returned give a third
pub on_both : {X E : Type 0} {A B C : Type 0} (r : Result X E) → (A → B → C) → OnOk r A → OnOk r B → OnOk r C
on_both (Ok x) f a b = f a b
on_both (Err e) f a b = tt

-- an entry isn't empty
kept_some : (caller : ℕ) (event : Event) (answer : Answer) (computed : List ℕ) → IsRecordable caller event answer → computed ≡ []
    → entry_text caller event answer ≢ computed
kept_some caller event answer computed recordable none = λ same. absurd (omega (arith, entry_some caller event answer recordable.fits, ap length (same ∙ none)))

-- An entry that is played: the one that is kept, and the answer that is computed for its caller and event.

pub record Played (state new : State) (kept : Entry) (answer : Answer) (lines : List ℕ) : Type 0 where
  pub reached : IsReached state
  pub lawful : IsLawful kept.event
  pub enrolled : kept.caller < state.callers
  pub enters : Enters answer lines state kept.event new

abbrev pub text_of : Entry → List ℕ
text_of entry = entry_text entry.caller entry.event entry.answer

pub made_fits : NextFits → (state new : State) (kept : Entry) (answer : Answer) (lines : List ℕ) → Played state new kept answer lines
    → IsRecordable kept.caller kept.event answer
made_fits next state new kept answer lines is =
    recordable next state is.reached kept.caller kept.event answer is.enrolled is.lawful is.enters.answer_is is.enters.adds

pub made_small : GoesOn → StaysWithin → (state new : State) (kept : Entry) (answer : Answer) (lines : List ℕ) → Played state new kept answer lines
    → length (entry_text kept.caller kept.event answer) ≤ 1073741824
made_small on within state new kept answer lines is =
    entry_small on within state is.reached kept.caller kept.event answer is.enrolled is.lawful is.enters.answer_is is.enters.adds

-- where the two answers are one, the entry is played
pub made_goes : (r : Result (Unit {0}) ReplayFault) (state new : State) (kept : Entry) (answer : Answer) (lines before after : List ℕ)
    → Played state new kept answer lines
    → OnOk r (kept.answer ≡ answer) → OnOk r (after ≡ before ++ (event_line kept ++ lines)) → OnOk r (Goes kept state new before after)
made_goes r state new kept answer lines before after is agree text =
    on_both r (λ agree text.
    (let same : kept.answer ≡ (step state kept.event).answer = agree ∙ is.enters.answer_is in
    record {
      enrolled = is.enrolled;
      adds = adds_is kept.answer (ap adds_entry same ∙ is.enters.adds);
      answer_is = same;
      state_is = is.enters.state_is;
      text = text ∙ ap (λ (l : List ℕ). before ++ (event_line kept ++ l)) is.enters.lines_are;
    })) agree text

pub made_differs : (r : Result (Unit {0}) ReplayFault) (number : ℕ) (state new : State) (kept : Entry) (answer : Answer) (lines : List ℕ)
    → Played state new kept answer lines
    → IfErr r (λ fault. Differs fault number (text_of kept) (entry_text kept.caller kept.event answer))
    → IfErr r (λ fault. Differs fault number (text_of kept) (computed_text state kept.caller kept.event))
made_differs r number state new kept answer lines is differs =
    subst (λ (l : List ℕ). IfErr r (λ fault. Differs fault number (text_of kept) l))
    (sym (computed_is state kept.caller kept.event answer is.enrolled is.enters.answer_is is.enters.adds)) differs

pub played_answered : (state new : State) (row : Row) (calls : Calls) (outcome : Outcome) (answer : Given) → IsReached state → outcome ≡ Answered answer
    → ComesTo outcome calls row.entry.caller state (event_in row.event) new → Played state new (placed_of row.entry).entry (answer_of answer) []
played_answered state new row calls outcome answer reached is comes =
    let came : (row.entry.caller < state.callers) × HasWholeHits answer
    × Enters (answer_of answer) [] state (event_in row.event) new =
    subst (λ (o : Outcome). ComesTo o calls row.entry.caller state (event_in row.event) new) is comes in
    record {
      reached = reached;
      lawful = row_lawful row;
      enrolled = came.0;
      enters = subst (λ (e : Event). Enters (answer_of answer) [] state e new) row.same came.2;
    }

pub played_released : (state new : State) (row : Row) (calls : Calls) (outcome : Outcome) (unit : ℕ) (hits lines : List ℕ) → IsReached state
    → outcome ≡ Released unit → ComesTo outcome calls row.entry.caller state (event_in row.event) new
    → hits ≡ calls.hits.items → lines ≡ flat_map invocation_text (step state release).invocations
    → Played state new (placed_of row.entry).entry (released unit (hits_in hits)) lines
played_released state new row calls outcome unit hits lines reached is comes hits_are lines_are =
    let came : (row.entry.caller < state.callers) × (event_in row.event ≡ release)
    × EntersRelease unit calls state new = subst (λ (o : Outcome). ComesTo o calls row.entry.caller state (event_in row.event) new) is comes in
    let event = event_of row.entry.event in
    let printed = flat_map invocation_text (step state release).invocations in
    let enters : Enters (released unit (hits_in calls.hits.items)) printed state event new =
    subst (λ (e : Event). Enters (released unit (hits_in calls.hits.items)) printed state e new) (sym came.1 ∙ row.same) came.2.1 in
    record {
      reached = reached;
      lawful = row_lawful row;
      enrolled = came.0;
      enters = subst (λ (l : List ℕ). Enters (released unit (hits_in l)) lines state event new) (sym hits_are)
          (subst (λ (l : List ℕ). Enters (released unit (hits_in calls.hits.items)) l state event new) (sym lines_are) enters);
    }

-- where the calls are printed, their lines are those of the invocations
pub lines_printed : (state new : State) (calls : Calls) (outcome : Outcome) (unit caller : ℕ) (event : Event) → calls.prints ≡ true → outcome ≡ Released unit
    → ComesTo outcome calls caller state event new → calls.lines ≡ flat_map invocation_text (step state release).invocations
lines_printed state new calls outcome unit caller event prints is comes =
    let came : (caller < state.callers) × (event ≡ release) × EntersRelease unit calls state new =
    subst (λ (o : Outcome). ComesTo o calls caller state event new) is comes in
    came.2.2 ∙ ap (λ (b : Bool). flat_map (line_where b) (step state release).invocations) prints

-- where nothing is computed, the entry differs
pub nothing_differs : (state new : State) (row : Row) (calls : Calls) (outcome : Outcome) (own given : List ℕ) (number : ℕ)
    → Recordable (placed_of row.entry).entry → outcome ≡ Nothing → ComesTo outcome calls row.entry.caller state (event_in row.event) new
    → own ≡ text_of (placed_of row.entry).entry → given ≡ []
    → Differs (Disagrees number own given) number (text_of (placed_of row.entry).entry) (computed_text state row.entry.caller (event_of row.entry.event))
nothing_differs state new row calls outcome own given number recordable is comes copied empty =
    let event = event_of row.entry.event in
    let came : computed_text state row.entry.caller (event_in row.event) ≡ [] =
    subst (λ (o : Outcome). ComesTo o calls row.entry.caller state (event_in row.event) new) is comes in
    let none : computed_text state row.entry.caller event ≡ [] = ap (computed_text state row.entry.caller) (sym row.same) ∙ came in
    (refl, copied, empty ∙ sym none, kept_some row.entry.caller event (answer_of row.entry.answer) (computed_text state row.entry.caller event) recordable none)
