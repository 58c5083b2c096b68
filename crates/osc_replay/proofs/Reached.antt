-- What holds of a state that was reached, by the laws of the model.
use Rattle.std.proofs.Common.{◌≡◌, ℕ, ◌<◌, ◌≤◌, true, List, [], ◌∷◌, ◌++◌, length, refl, sym, ap, subst, ◌∙◌, arith, length-append}
use Rattle.std.proofs.lemmas.Bool.{cond-true}
use Rattle.std.specs.List.{AllByRecursion}
use Rattle.osc_model.specs.Limits.{Limits}
use Rattle.osc_model.specs.State.{State, opening}
use Rattle.osc_model.specs.Events.{Event, release, Answer, released, adds_entry, Hit, Entry}
use Rattle.osc_model.specs.Recordings.{IsHit, IsRecordable, IsSound as IsSoundAnswer, entry_text, record_text}
use Rattle.osc_model.specs.Step.{step}
use Rattle.osc_model.specs.History.{IsLawful, Legal, IsSound, IsCounted, after, Performance, state_of, stepped_in, onward}
use Rattle.osc_record.proofs.Kept.{record_more}
use Rattle.osc_replay.specs.Playing.{IsReached}

abbrev pub StaySound : Type 0
StaySound = (caps : Limits) (history : List Entry) → Legal caps history → IsSound (after (opening caps) history)

abbrev pub StayCounted : Type 0
StayCounted = (caps : Limits) (history : List Entry) → Legal caps history → IsCounted (after (opening caps) history)

abbrev pub NextFits : Type 0
NextFits = (performance : Performance) (caller : ℕ) (event : Event) → Legal performance.caps performance.history → caller < (state_of performance).callers
    → IsLawful event
    → adds_entry (stepped_in performance event).answer ≡ true → IsRecordable caller event (stepped_in performance event).answer

abbrev pub GoesOn : Type 0
GoesOn = (performance : Performance) (caller : ℕ) (event : Event) → Legal performance.caps performance.history → caller < (state_of performance).callers
    → IsLawful event → Legal performance.caps (onward performance caller event).history

abbrev pub StaysWithin : Type 0
StaysWithin = (caps : Limits) (history : List Entry) → Legal caps history → length (record_text caps history) ≤ caps.recording

pub reached_sound : StaySound → (state : State) → IsReached state → IsSound state
reached_sound sound state reached = subst IsSound (sym reached.is) (sound reached.performance.caps reached.performance.history reached.legal)

pub reached_counted : StayCounted → (state : State) → IsReached state → IsCounted state
reached_counted counted state reached = subst IsCounted (sym reached.is) (counted reached.performance.caps reached.performance.history reached.legal)

-- the answer to an enrolled caller can be recorded
pub recordable : NextFits → (state : State) → IsReached state → (caller : ℕ) (event : Event) (answer : Answer) → caller < state.callers → IsLawful event
    → answer ≡ (step state event).answer → adds_entry (step state event).answer ≡ true → IsRecordable caller event answer
recordable next state reached caller event answer enrolled lawful is adds =
    let p = reached.performance in
    subst (λ (s : State). caller < s.callers → answer ≡ (step s event).answer → adds_entry (step s event).answer ≡ true → IsRecordable caller event answer)
    (sym reached.is)
    (λ enrolled is adds. subst (IsRecordable caller event) (sym is) (next p caller event reached.legal enrolled lawful adds)) enrolled is adds

-- and its entry is small
pub entry_small : GoesOn → StaysWithin → (state : State) → IsReached state → (caller : ℕ) (event : Event) (answer : Answer) → caller < state.callers
    → IsLawful event → answer ≡ (step state event).answer → adds_entry (step state event).answer ≡ true
    → length (entry_text caller event answer) ≤ 1073741824
entry_small on within state reached caller event answer enrolled lawful is adds =
    let p = reached.performance in
    subst (λ (s : State). caller < s.callers → answer ≡ (step s event).answer → adds_entry (step s event).answer ≡ true
    → length (entry_text caller event answer) ≤ 1073741824) (sym reached.is)
    (λ enrolled is adds. (
    let entry : Entry = record { caller = caller; event = event; answer = (stepped_in p event).answer } in
    let history : (onward p caller event).history ≡ p.history ++ entry ∷ [] =
    ap (λ (q : Performance). q.history) (cond-true (adds_entry (stepped_in p event).answer) (record p { history = p.history ++ entry ∷ [] }) p adds) in
    let legal = on p caller event reached.legal enrolled lawful in
    let most = within p.caps (onward p caller event).history legal in
    let small = reached.legal.0.recording.below in
    let size : length (record_text p.caps (onward p caller event).history)
    ≡ length (record_text p.caps p.history ++ entry_text caller event (stepped_in p event).answer) =
    ap (λ (h : List Entry). length (record_text p.caps h)) history ∙ ap length (record_more p.caps p.history entry) in
    let joined = length-append (record_text p.caps p.history) (entry_text caller event (stepped_in p event).answer) in
    let same : length (entry_text caller event answer) ≡ length (entry_text caller event (stepped_in p event).answer) =
    ap (λ (a : Answer). length (entry_text caller event a)) is in
    omega (arith, most, small, size, joined, same)
    )) enrolled is adds

-- the hits of a release are words
pub hits_fit : StaySound → NextFits → (state : State) → IsReached state → adds_entry (step state release).answer ≡ true → (u : ℕ) (hs : List Hit)
    → (step state release).answer ≡ released u hs → AllByRecursion IsHit hs
hits_fit sound next state reached adds u hs is =
    let callers = (reached_sound sound state reached).callers.0 in
    subst IsSoundAnswer is (recordable next state reached 0 release (step state release).answer (omega (arith, callers)) tt refl adds).sound
