-- The entries of a legal history can be recorded, and take the bytes that are counted.
use Rattle.std.proofs.Common.{◌≡◌, inl, inr, ℕ, ◌+◌, ◌<◌, ◌≤◌, ◌^◌, true, List, [], ◌∷◌, ◌++◌, length, length-append, refl, sym, ap, subst, ◌∙◌, arith}
use Rattle.std.proofs.Common.{append_assoc}
use Rattle.std.specs.List.{AllByRecursion, flat_map}
use Rattle.osc_model.specs.Limits.{Limits}
use Rattle.osc_model.specs.State.{State, opening}
use Rattle.osc_model.specs.Recordings.{IsRecordable, entry_size, entry_text, header_text, record_text}
use Rattle.osc_model.specs.Events.{Event, adds_entry, Answer, Entry}
use Rattle.osc_model.specs.Step.{Stepped, step, decided}
use Rattle.osc_model.specs.History.{IsLawful, LegalFrom, Legal, IsSound, IsCounted, after, Performance, state_of, stepped_in}
use Rattle.osc_model.proofs.Stepping.{step_so, decided_so}
use Rattle.osc_model.proofs.Onward.{entered, is_adds, legal_split}
use Rattle.osc_model.proofs.Changes.{Changes, changes}
use Rattle.osc_model.proofs.Sizes.{sizes_are, header_size}
use Rattle.osc_model.proofs.Fitting.{OfAnswers, IsSmall, decided_fits}

-- what is known of a server after each legal history, and of its answers
pub record OfServer : Type 0 where
  pub answers : OfAnswers
  pub sound : (caps : Limits) (history : List Entry) → Legal caps history → IsSound (after (opening caps) history)
  pub counted : (caps : Limits) (history : List Entry) → Legal caps history → IsCounted (after (opening caps) history)

-- The clock is a moment that can be recorded.

decided_clock : (state : State) (event : Event) → state.clock < 2 ^ 64 → IsLawful event → (decided state event).state.clock < 2 ^ 64
decided_clock state event clock =
    decided_so (λ event stepped. IsLawful event → stepped.state.clock < 2 ^ 64) state event
    (record {
      refused = λ event answer is lawful. clock;
      enrolled = λ lawful. clock;
      queued = λ packet lawful. clock;
      added = λ address lawful. clock;
      removed = λ address id lawful. clock;
      ticked = λ now later lawful. lawful;
      released = λ unit units first lawful. clock;
    })

after_clock : (state : State) (history : List Entry) → LegalFrom state history → state.clock < 2 ^ 64 → (after state history).clock < 2 ^ 64
after_clock state [] legal clock = clock
after_clock state (entry ∷ entries) legal clock =
    let decides = decided_clock state entry.event clock legal.1 in
    after_clock (step state entry.event).state entries legal.4
    (step_so (λ stepped. stepped.state.clock < 2 ^ 64) state entry.event
    (record { silent = λ none. decides; full = λ some full. clock; room = λ some fits. decides }))

small : OfServer → (caps : Limits) (history : List Entry) → Legal caps history → IsSmall (after (opening caps) history)
small of caps history legal =
    record { sound = of.sound caps history legal; counted = of.counted caps history legal; clock = after_clock (opening caps) history legal.1 (omega arith) }

-- Each entry can be recorded.

entry_fits : OfServer → (caller : ℕ) (state : State) (event : Event) → caller < state.callers → IsSmall state → IsLawful event
    → adds_entry (step state event).answer ≡ true → IsRecordable caller event (step state event).answer
entry_fits of caller state event enrolled little lawful adds =
    let in_ = entered state event adds in
    subst (λ (s : Stepped). IsRecordable caller event s.answer) (sym in_.is)
    (decided_fits of.answers caller state event enrolled little lawful in_.adds in_.room)

pub next_fits : OfServer → (performance : Performance) (caller : ℕ) (event : Event) → Legal performance.caps performance.history
    → caller < (state_of performance).callers → IsLawful event
    → adds_entry (stepped_in performance event).answer ≡ true → IsRecordable caller event (stepped_in performance event).answer
next_fits of performance caller event legal enrolled lawful adds =
    entry_fits of caller (state_of performance) event enrolled (small of performance.caps performance.history legal) lawful adds

-- an entry that can be recorded
abbrev Fits : Entry → Type 0
Fits entry = IsRecordable entry.caller entry.event entry.answer

all_from : OfServer → (caps : Limits) (before rest : List Entry) → Legal caps (before ++ rest) → AllByRecursion Fits rest
all_from of caps before [] legal = tt
all_from of caps before (entry ∷ rest) legal =
    let split = legal_split (opening caps) before (entry ∷ rest) legal.1 in
    let state = after (opening caps) before in
    let same : entry.answer ≡ (step state entry.event).answer = split.1.3 in
    let adds : adds_entry (step state entry.event).answer ≡ true = ap adds_entry (sym same) ∙ is_adds entry.answer split.1.2 in
    let one = entry_fits of entry.caller state entry.event split.1.0 (small of caps before (legal.0, split.0)) split.1.1 adds in (
      subst (IsRecordable entry.caller entry.event) (sym same) one,
      all_from of caps (before ++ entry ∷ []) rest
          (subst (Legal caps) (sym (append_assoc before (entry ∷ []) rest)) legal),
    )

pub all_fit : OfServer → (caps : Limits) (history : List Entry) → Legal caps history → AllByRecursion Fits history
all_fit of caps history legal = all_from of caps [] history legal

-- As many bytes are counted as the entries have.

step_recorded : (state : State) (event : Event) → adds_entry (step state event).answer ≡ true
    → (step state event).state.recorded ≡ state.recorded + entry_size event (step state event).answer
step_recorded state event adds =
    let in_ = entered state event adds in
    ap (λ (s : Stepped). s.state.recorded) in_.is ∙ ap (λ (s : Stepped). state.recorded + entry_size event s.answer) (sym in_.is)

-- the bytes of some entries
abbrev entries_text : List Entry → List ℕ
entries_text entries = flat_map (λ entry. entry_text entry.caller entry.event entry.answer) entries

after_recorded : (state : State) (history : List Entry) → LegalFrom state history → AllByRecursion Fits history
    → (after state history).recorded ≡ state.recorded + length (entries_text history)
after_recorded state [] legal fit = omega arith
after_recorded state (entry ∷ entries) legal fit =
    let next = (step state entry.event).state in
    let same : entry.answer ≡ (step state entry.event).answer = legal.3 in
    let adds : adds_entry (step state entry.event).answer ≡ true = ap adds_entry (sym same) ∙ is_adds entry.answer legal.2 in
    let text : List ℕ = entry_text entry.caller entry.event entry.answer in
    let size : length text ≡ entry_size entry.event entry.answer = sizes_are entry.caller entry.event entry.answer fit.0.fits in
    let here : next.recorded ≡ state.recorded + length text = step_recorded state entry.event adds
    ∙ ap (λ (a : Answer). state.recorded + entry_size entry.event a) (sym same) ∙ ap (λ (n : ℕ). state.recorded + n) (sym size) in
    let rest : (after next entries).recorded ≡ next.recorded + length (entries_text entries) = after_recorded next entries legal.4 fit.1 in
    omega (arith, here, rest, length-append text (entries_text entries))

pub all_recorded : OfServer → (caps : Limits) (history : List Entry) → Legal caps history
    → (after (opening caps) history).recorded ≡ length (record_text caps history)
all_recorded of caps history legal =
    after_recorded (opening caps) history legal.1 (all_fit of caps history legal)
    ∙ ap (λ (n : ℕ). n + length (entries_text history)) (sym (header_size caps))
    ∙ sym (length-append (header_text caps) (entries_text history))

-- limits stay as they are
pub after_caps : (state : State) (history : List Entry) → (after state history).caps ≡ state.caps
after_caps state [] = refl
after_caps state (entry ∷ entries) = after_caps (step state entry.event).state entries ∙ go (changes state entry.event) where
  go : Changes state entry.event (step state entry.event) → (step state entry.event).state.caps ≡ state.caps
  go (inl kept) = kept.caps
  go (inr (inl more)) = more.caps
  go (inr (inr fewer)) = fewer.caps

pub all_within : OfServer → (caps : Limits) (history : List Entry) → Legal caps history → length (record_text caps history) ≤ caps.recording
all_within of caps history legal =
    let within = (of.counted caps history legal).within in
    subst (λ (n : ℕ). n ≤ caps.recording) (all_recorded of caps history legal)
    (subst (λ (limits : Limits). (after (opening caps) history).recorded ≤ limits.recording) (after_caps (opening caps) history) within)
