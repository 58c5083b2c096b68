-- Histories, one entry on: when an entry is added, and what follows what.
use Rattle.std.proofs.Common.{◌≡◌, ℕ, ◌<◌, ◌≤◌, Bool, true, false, cond, List, [], ◌∷◌, ◌++◌, refl, sym, ap, ◌∙◌, append_assoc}
use Rattle.std.proofs.lemmas.List.{append-nil}
use Rattle.osc_model.specs.State.{State, opening}
use Rattle.osc_model.specs.Counts.{free_bytes}
use Rattle.osc_model.specs.Recordings.{entry_size}
use Rattle.osc_model.specs.Events.{Event, Answer, nothing_due, record_full, adds_entry, Invocation, Entry}
use Rattle.osc_model.specs.Refusals.{IsRefusal}
use Rattle.osc_model.specs.Step.{Stepped, step, decided}
use Rattle.osc_model.specs.History.{IsLawful, AddsEntry, LegalFrom, Legal, after, invocations, Performance, state_of, invoked_in, stepped_in, onward}
use Rattle.osc_model.proofs.Stepping.{noted, step_so}
use Rattle.osc_model.proofs.Refusals.{none_stays, refusal_silent}

-- When an entry is added.

-- an entry is added: the event is answered by the rules, and there was room for its bytes
pub record IsEntered (state : State) (event : Event) (stepped : Stepped) : Type 0 where
  pub adds : adds_entry (decided state event).answer ≡ true
  pub room : entry_size event (decided state event).answer ≤ free_bytes state
  pub is : stepped ≡ noted state (entry_size event (decided state event).answer) (decided state event)

pub entered : (state : State) (event : Event) → adds_entry (step state event).answer ≡ true → IsEntered state event (step state event)
entered state event =
    step_so (λ stepped. adds_entry stepped.answer ≡ true → IsEntered state event stepped) state event
    (record {
      silent = λ none adds. absurd (cc);
      full = λ some full adds. absurd (cc);
      room = λ some fits adds. record { adds = some; room = fits; is = refl };
    })

-- what adds no entry is refused
none_refused : (answer : Answer) → adds_entry answer ≡ false → IsRefusal answer
none_refused (nothing_due next) none = tt
none_refused (record_full room) none = tt
none_refused _ none = absurd (cc)

pub adds_is : (answer : Answer) → adds_entry answer ≡ true → AddsEntry answer
adds_is (nothing_due next) is = absurd (cc)
adds_is (record_full room) is = absurd (cc)
adds_is _ is = tt

pub is_adds : (answer : Answer) → AddsEntry answer → adds_entry answer ≡ true
is_adds (nothing_due next) is = absurd is
is_adds (record_full room) is = absurd is
is_adds _ is = refl

-- One history behind another.

pub after_more : (state : State) (first more : List Entry) → after state (first ++ more) ≡ after (after state first) more
after_more state [] more = refl
after_more state (entry ∷ first) more = after_more (step state entry.event).state first more

pub invoked_more : (state : State) (first more : List Entry)
    → invocations state (first ++ more) ≡ invocations state first ++ invocations (after state first) more
invoked_more state [] more = refl
invoked_more state (entry ∷ first) more =
    let here = (step state entry.event).invocations in
    let next = (step state entry.event).state in
    ap (λ (l : List Invocation). here ++ l) (invoked_more next first more)
    ∙ sym (append_assoc here (invocations next first) (invocations (after next first) more))

pub legal_more : (state : State) (first more : List Entry) → LegalFrom state first → LegalFrom (after state first) more → LegalFrom state (first ++ more)
legal_more state [] more one two = two
legal_more state (entry ∷ first) more one two = (one.0, one.1, one.2, one.3, legal_more (step state entry.event).state first more one.4 two)

pub legal_split : (state : State) (first more : List Entry) → LegalFrom state (first ++ more) → LegalFrom state first × LegalFrom (after state first) more
legal_split state [] more legal = (tt, legal)
legal_split state (entry ∷ first) more legal =
    let rest = legal_split (step state entry.event).state first more legal.4 in
    ((legal.0, legal.1, legal.2, legal.3, rest.0), rest.1)

-- A performance, one event on.

-- the entry of a caller's event
abbrev pub entry_in : Performance → ℕ → Event → Entry
entry_in performance caller event = record { caller = caller; event = event; answer = (stepped_in performance event).answer }

-- what holds of both ways in which a performance goes on holds of it
by_answer : (P : Performance → Type 0) (performance : Performance) (caller : ℕ) (event : Event)
    → (adds_entry (stepped_in performance event).answer ≡ true
    → P (record performance { history = performance.history ++ entry_in performance caller event ∷ [] }))
    → (adds_entry (stepped_in performance event).answer ≡ false → P performance) → P (onward performance caller event)
by_answer P performance caller event added not_added = go (adds_entry (stepped_in performance event).answer) refl where
  go : (t : Bool) → adds_entry (stepped_in performance event).answer ≡ t
      → P (cond t (record performance { history = performance.history ++ entry_in performance caller event ∷ [] }) performance)
  go true is = added is
  go false is = not_added is

pub caps_stay : (performance : Performance) (caller : ℕ) (event : Event) → (onward performance caller event).caps ≡ performance.caps
caps_stay performance caller event = by_answer (λ next. next.caps ≡ performance.caps) performance caller event (λ is. refl) (λ is. refl)

pub onward_legal : (performance : Performance) (caller : ℕ) (event : Event) → Legal performance.caps performance.history
    → caller < (state_of performance).callers → IsLawful event → Legal performance.caps (onward performance caller event).history
onward_legal performance caller event legal enrolled lawful =
    by_answer (λ next. Legal performance.caps next.history) performance caller event
    (λ is. (
      legal.0,
      legal_more (opening performance.caps) performance.history (entry_in performance caller event ∷ []) legal.1
          (enrolled, lawful, adds_is (stepped_in performance event).answer is, refl, tt),
    ))
    (λ is. legal)

pub onward_state : (performance : Performance) (caller : ℕ) (event : Event) → state_of (onward performance caller event) ≡ (stepped_in performance event).state
onward_state performance caller event =
    by_answer (λ next. state_of next ≡ (stepped_in performance event).state) performance caller event
    (λ is. after_more (opening performance.caps) performance.history (entry_in performance caller event ∷ []))
    (λ is. sym (none_stays (state_of performance) event is))

pub onward_invoked : (performance : Performance) (caller : ℕ) (event : Event)
    → invoked_in (onward performance caller event) ≡ invoked_in performance ++ (stepped_in performance event).invocations
onward_invoked performance caller event =
    by_answer (λ next. invoked_in next ≡ invoked_in performance ++ (stepped_in performance event).invocations) performance caller event
    (λ is. invoked_more (opening performance.caps) performance.history (entry_in performance caller event ∷ [])
    ∙ ap (λ (l : List Invocation). invoked_in performance ++ l) (append-nil (stepped_in performance event).invocations))
    (λ is. sym (ap (λ (l : List Invocation). invoked_in performance ++ l)
    (refusal_silent (state_of performance) event (none_refused (stepped_in performance event).answer is)) ∙ append-nil (invoked_in performance)))
