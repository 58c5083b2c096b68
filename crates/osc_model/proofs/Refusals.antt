-- What is refused changes nothing.
use Rattle.std.proofs.Common.{◌≡◌, ◌+◌, ◌<◌, ◌≤◌, true, false, [], refl, sym, ap, subst, arith}
use Rattle.osc_model.specs.State.{State}
use Rattle.osc_model.specs.Counts.{free_bytes}
use Rattle.osc_model.specs.Recordings.{entry_size}
use Rattle.osc_model.specs.Events.{Event, adds_entry}
use Rattle.osc_model.specs.Refusals.{IsRefusal}
use Rattle.osc_model.specs.Step.{Stepped, step, decided}
use Rattle.osc_model.proofs.Stepping.{no_room, noted, step_so, decided_so}

true_false : true ≡ false → ⊥
true_false e = cc

-- a refusal leaves all as it was, and invokes nothing
abbrev Stays : State → Stepped → Type 0
Stays state stepped = IsRefusal stepped.answer → (stepped.state ≡ state) × (stepped.invocations ≡ [])

decided_stays : (state : State) (event : Event) → Stays state (decided state event)
decided_stays state event =
    decided_so (λ event stepped. Stays state stepped) state event
    (record {
      refused = λ event answer is refusal. (refl, refl);
      enrolled = λ refusal. absurd refusal;
      queued = λ packet refusal. absurd refusal;
      added = λ address refusal. absurd refusal;
      removed = λ address id refusal. absurd refusal;
      ticked = λ now later refusal. absurd refusal;
      released = λ unit units first refusal. absurd refusal;
    })

-- what adds no entry leaves all as it was
pub decided_none : (state : State) (event : Event) → adds_entry (decided state event).answer ≡ false → (decided state event).state ≡ state
decided_none state event =
    decided_so (λ event stepped. adds_entry stepped.answer ≡ false → stepped.state ≡ state) state event
    (record {
      refused = λ event answer is none. refl;
      enrolled = λ none. absurd (true_false none);
      queued = λ packet none. absurd (true_false none);
      added = λ address none. absurd (true_false none);
      removed = λ address id none. absurd (true_false none);
      ticked = λ now later none. absurd (true_false none);
      released = λ unit units first none. absurd (true_false none);
    })

pub refusal_stays : (state : State) (event : Event) → IsRefusal (step state event).answer
    → (step state event).state ≡ record state { recorded = (step state event).state.recorded }
refusal_stays state event =
    step_so (λ stepped. IsRefusal stepped.answer → stepped.state ≡ record state { recorded = stepped.state.recorded }) state event
    (record {
      silent = λ none is. subst (λ (s : State). s ≡ record state { recorded = s.recorded }) (sym (decided_stays state event is).0) refl;
      full = λ some full is. refl;
      room = λ some fits is. ap (λ (s : State). record s { recorded = state.recorded + entry_size event (decided state event).answer })
          (decided_stays state event is).0;
    })

pub none_stays : (state : State) (event : Event) → adds_entry (step state event).answer ≡ false → (step state event).state ≡ state
none_stays state event =
    step_so (λ stepped. adds_entry stepped.answer ≡ false → stepped.state ≡ state) state event
    (record { silent = λ none is. decided_none state event none; full = λ some full is. refl; room = λ some fits is. absurd (cc) })

pub refusal_silent : (state : State) (event : Event) → IsRefusal (step state event).answer → (step state event).invocations ≡ []
refusal_silent state event =
    step_so (λ stepped. IsRefusal stepped.answer → stepped.invocations ≡ []) state event
    (record { silent = λ none is. (decided_stays state event is).1; full = λ some full is. refl; room = λ some fits is. (decided_stays state event is).1 })

-- Where there is room, and where there is none.

pub full_refuses : (state : State) (event : Event) → adds_entry (decided state event).answer ≡ true
    → free_bytes state < entry_size event (decided state event).answer → step state event ≡ no_room state (entry_size event (decided state event).answer)
full_refuses state event some full =
    step_so (λ stepped. stepped ≡ no_room state (entry_size event (decided state event).answer)) state event
    (record { silent = λ none. absurd (cc); full = λ some full. refl; room = λ some fits. absurd (omega arith) })

pub room_records : (state : State) (event : Event) → adds_entry (decided state event).answer ≡ true
    → entry_size event (decided state event).answer ≤ free_bytes state
    → step state event ≡ noted state (entry_size event (decided state event).answer) (decided state event)
room_records state event some fits =
    step_so (λ stepped. stepped ≡ noted state (entry_size event (decided state event).answer) (decided state event)) state event
    (record { silent = λ none. absurd (cc); full = λ some full. absurd (omega arith); room = λ some fits. refl })

pub none_decided : (state : State) (event : Event) → adds_entry (decided state event).answer ≡ false → step state event ≡ decided state event
none_decided state event none =
    step_so (λ stepped. stepped ≡ decided state event) state event
    (record { silent = λ none. refl; full = λ some full. absurd (cc); room = λ some fits. absurd (cc) })
