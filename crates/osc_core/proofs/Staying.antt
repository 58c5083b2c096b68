-- What leaves the methods, and what their boxes have heard.
use Rattle.std.proofs.Common.{◌≡◌, ℕ, ◌≤◌, List, [], map, refl, sym, ap, subst, ◌∙◌}
use Rattle.osc_pattern.specs.Methods.{Method}
use Rattle.osc_model.specs.Limits.{Limits}
use Rattle.osc_model.specs.Refusals.{IsRefusal}
use Rattle.osc_model.specs.History.{Performance, state_of, HaveHeard}
use Rattle.osc_model.specs.Heard.{Told}
use Rattle.osc_model.specs.State.{State}
use Rattle.osc_model.specs.Events.{Event}
use Rattle.osc_model.specs.Step.{Stepped, step}
use Rattle.osc_model.proofs.Stepping.{step_so, decided_so}
use Rattle.osc_core.specs.declared.answers.AddRefusal.{AddRefusal}
use Rattle.osc_core.specs.declared.answers.AddRefusal.TheVariants as adding
use Rattle.osc_core.specs.Answers.{refusal_of}
use Rattle.osc_core.specs.Playing.{IsQuiet}

-- the methods stay, and none is called
pub record IsSilent (state : State) (stepped : Stepped) : Type 0 where
  pub methods : stepped.state.methods ≡ state.methods
  pub none : stepped.invocations ≡ []

pub quiet_silent : (state : State) (event : Event) → IsQuiet event → IsSilent state (step state event)
quiet_silent state event quiet =
    let here = decided_so (λ event stepped. IsQuiet event → IsSilent state stepped) state event
    (record {
      refused = λ event answer is quiet. record { methods = refl; none = refl };
      enrolled = λ quiet. record { methods = refl; none = refl };
      queued = λ packet quiet. record { methods = refl; none = refl };
      added = λ address quiet. absurd quiet;
      removed = λ address id quiet. absurd quiet;
      ticked = λ now later quiet. record { methods = refl; none = refl };
      released = λ unit units first quiet. absurd quiet;
    }) quiet in
    step_so (IsSilent state) state event
    (record {
      silent = λ none. here;
      full = λ some full. record { methods = refl; none = refl };
      room = λ some fits. record { methods = here.methods; none = here.none };
    })

-- the ids of the boxes stay those of the methods
pub still_alike : (now next onwards : Performance) (ids : List ℕ) → next ≡ onwards → (state_of onwards).methods ≡ (state_of now).methods
    → ids ≡ map (λ method. method.id) (state_of now).methods → ids ≡ map (λ method. method.id) (state_of next).methods
still_alike now next onwards ids is same alike =
    alike ∙ sym (ap (map (λ (method : Method). method.id)) (ap (λ (p : Performance). (state_of p).methods) is ∙ same))

pub still_reserved : (now next onwards : Performance) (room : ℕ) → next ≡ onwards → onwards.caps ≡ now.caps → now.caps.methods ≤ room → next.caps.methods ≤ room
still_reserved now next onwards room is same reserved = subst (λ (l : Limits). l.methods ≤ room) (sym (ap (λ (p : Performance). p.caps) is ∙ same)) reserved

pub refusals_refuse : (why : AddRefusal) → IsRefusal (refusal_of why)
refusals_refuse (adding.RecordFull room) = tt
refusals_refuse (adding.Taken id) = tt
refusals_refuse (adding.UnderMethod id) = tt
refusals_refuse adding.IsContainer = tt
refusals_refuse (adding.MethodsFull limit) = tt
refusals_refuse (adding.NodesFull room) = tt

pub heard_on : (next onwards : Performance) (boxes : List Told) → next ≡ onwards → HaveHeard onwards boxes → HaveHeard next boxes
heard_on next onwards boxes is heard = subst (λ (p : Performance). HaveHeard p boxes) (sym is) heard

pub heard_more : (performance : Performance) (boxes more : List Told) → more ≡ boxes → HaveHeard performance boxes → HaveHeard performance more
heard_more performance boxes more is heard = subst (HaveHeard performance) (sym is) heard
