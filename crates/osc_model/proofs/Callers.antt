-- Callers are enrolled by the entries of a history.
use Rattle.std.proofs.Common.{◌≡◌, ℕ, ◌+◌, ◌≤◌, ◌==◌, Bool, true, false, cond, List, [], ◌∷◌, ◌++◌, refl, sym, ap, ◌∙◌, arith}
use Rattle.osc_model.specs.Limits.{Limits}
use Rattle.osc_model.specs.State.{State, opening}
use Rattle.osc_model.specs.Enrolled.{enrols, callers_in}
use Rattle.osc_model.specs.Events.{Event, enrol, Answer, number, callers_full, units_full, pool_full, refused, not_there, clock_back, nothing_due, record_full}
use Rattle.osc_model.specs.Events.{Entry}
use Rattle.osc_model.specs.Refusals.{IsRefusal}
use Rattle.osc_model.specs.Step.{step, decided, leaves}
use Rattle.osc_model.specs.History.{LegalFrom, Legal, after}
use Rattle.osc_model.proofs.Stepping.{step_so, decided_so}
use Rattle.osc_model.proofs.Onward.{legal_split}

-- as many callers as before, and one more where the answer enrols one
abbrev one_more : Answer → ℕ → ℕ
one_more answer callers = cond (enrols answer) (callers + 1) callers

refusal_enrols : (answer : Answer) → IsRefusal answer → (callers : ℕ) → callers ≡ one_more answer callers
refusal_enrols callers_full is callers = refl
refusal_enrols (units_full room) is callers = refl
refusal_enrols (pool_full room) is callers = refl
refusal_enrols (refused refusal) is callers = refl
refusal_enrols not_there is callers = refl
refusal_enrols (clock_back clock) is callers = refl
refusal_enrols (nothing_due next) is callers = refl
refusal_enrols (record_full room) is callers = refl
refusal_enrols _ is callers = absurd is

step_callers : (state : State) (event : Event) → (step state event).state.callers ≡ one_more (step state event).answer state.callers
step_callers state event =
    let here =
    decided_so (λ event stepped. stepped.state.callers ≡ one_more stepped.answer state.callers) state event
    (record {
      refused = λ event answer is. refusal_enrols answer is state.callers;
      enrolled = refl;
      queued = λ packet. refl;
      added = λ address. refl;
      removed = λ address id. refl;
      ticked = λ now later. refl;
      released = λ unit units first. refl;
    }) in
    step_so (λ stepped. stepped.state.callers ≡ one_more stepped.answer state.callers) state event
    (record { silent = λ none. here; full = λ some full. refl; room = λ some fits. here })

counted_from : (state : State) (history : List Entry) → LegalFrom state history → (after state history).callers + 1 ≡ state.callers + callers_in history
counted_from state [] legal = refl
counted_from state (entry ∷ entries) legal =
    let next = (step state entry.event).state in
    let here : next.callers ≡ one_more entry.answer state.callers =
    step_callers state entry.event ∙ ap (λ (a : Answer). one_more a state.callers) (sym legal.3) in
    go (enrols entry.answer) here (counted_from next entries legal.4)
  where
    go : (t : Bool) → (step state entry.event).state.callers ≡ cond t (state.callers + 1) state.callers
        → (after (step state entry.event).state entries).callers + 1 ≡ (step state entry.event).state.callers + callers_in entries
        → (after (step state entry.event).state entries).callers + 1 ≡ state.callers + cond t (callers_in entries + 1) (callers_in entries)
    go true is rest = omega arith
    go false is rest = omega arith

pub callers_counted : (caps : Limits) (history : List Entry) → Legal caps history → (after (opening caps) history).callers ≡ callers_in history
callers_counted caps history legal = omega (arith, counted_from (opening caps) history legal.1)

-- there are no fewer of them later
pub callers_more : (history more : List Entry) → callers_in history ≤ callers_in (history ++ more)
callers_more [] more = some more where
  some : (history : List Entry) → 1 ≤ callers_in history
  some [] = omega arith
  some (entry ∷ entries) = go (enrols entry.answer) (some entries) where
    go : (t : Bool) → 1 ≤ callers_in entries → 1 ≤ cond t (callers_in entries + 1) (callers_in entries)
    go true is = omega arith
    go false is = is
callers_more (entry ∷ history) more = go (enrols entry.answer) (callers_more history more) where
  go : (t : Bool) → callers_in history ≤ callers_in (history ++ more)
      → cond t (callers_in history + 1) (callers_in history) ≤ cond t (callers_in (history ++ more) + 1) (callers_in (history ++ more))
  go true is = omega arith
  go false is = is

-- no entry makes them fewer
step_never_falls : (state : State) (event : Event) → state.callers ≤ (step state event).state.callers
step_never_falls state event = go (enrols (step state event).answer) (step_callers state event) where
  go : (t : Bool) → (step state event).state.callers ≡ cond t (state.callers + 1) state.callers → state.callers ≤ (step state event).state.callers
  go true is = omega arith
  go false is = omega arith

pub callers_never_fall : (state : State) (history : List Entry) → state.callers ≤ (after state history).callers
callers_never_fall state [] = omega arith
callers_never_fall state (entry ∷ entries) =
    on state.callers (step state entry.event).state.callers _ (step_never_falls state entry.event)
    (callers_never_fall (step state entry.event).state entries) where
      on : (a b c : ℕ) → a ≤ b → b ≤ c → a ≤ c
      on a b c one two = omega arith

-- An enrolment that is answered by a number.

one_more_in : (history : List Entry) (entry : Entry) → enrols entry.answer ≡ true → callers_in (history ++ entry ∷ []) ≡ callers_in history + 1
one_more_in [] entry is = ap (λ (t : Bool). cond t 2 1) is
one_more_in (first ∷ history) entry is = ap (λ (n : ℕ). cond (enrols first.answer) (n + 1) n) (one_more_in history entry is) ∙ go (enrols first.answer) where
  go : (t : Bool) → cond t (callers_in history + 1 + 1) (callers_in history + 1) ≡ cond t (callers_in history + 1) (callers_in history) + 1
  go true = refl
  go false = refl

enrol_gives : (state : State) (n : ℕ) → number n ≡ (step state enrol).answer → n ≡ state.callers
enrol_gives state n =
    step_so (λ stepped. number n ≡ stepped.answer → n ≡ state.callers) state enrol
    (record { silent = λ none. here; full = λ some full is. absurd (cc); room = λ some fits. here })
  where
    here : number n ≡ (decided state enrol).answer → n ≡ state.callers
    here = go (state.callers == state.caps.callers) where
      go : (t : Bool) → number n ≡ (cond t (leaves state callers_full) (leaves (record state { callers = state.callers + 1 }) (number state.callers))).answer
          → n ≡ state.callers
      go true is = absurd (cc)
      go false is = cc

pub enrolled_next : (caps : Limits) (history : List Entry) (caller n : ℕ)
    → Legal caps (history ++ record { caller = caller; event = enrol; answer = number n } ∷ []) →
    (1 ≤ n) × (callers_in (history ++ record { caller = caller; event = enrol; answer = number n } ∷ []) ≡ n + 1)
enrolled_next caps history caller n legal =
    let parts = legal_split (opening caps) history (record { caller = caller; event = enrol; answer = number n } ∷ []) legal.1 in
    let given = enrol_gives (after (opening caps) history) n parts.1.3 in
    let counted = callers_counted caps history (legal.0, parts.0) in (
      omega (arith, given, counted, callers_more [] history),
      omega
          (arith, given, counted, one_more_in history (record { caller = caller; event = enrol; answer = number n }) refl),
    )
