-- Caller 0 is enrolled from the opening on.
use Rattle.std.proofs.Common.{◌≡◌, ℕ, ◌<◌, nat_lt, true, List, [], Option, Some, None, refl, sym, ap, arith}
use Rattle.std.proofs.lemmas.Bool.Decides.{nat_tests}
use Rattle.osc_atoms.specs.declared.fault.Fault.{Fault}
use Rattle.osc_model.specs.State.{opening}
use Rattle.osc_model.specs.Events.{Event}
use Rattle.osc_model.specs.History.{Performance, state_of}
use Rattle.osc_model.proofs.Callers.{callers_never_fall}
use Rattle.osc_core.specs.Invoked.{Call}
use Rattle.osc_c.specs.Answers.{bare}
use Rattle.osc_c.specs.Held.{played, left, answered, after, submit_answered, after_submit, released_in, answered_to, done_by}
use Rattle.osc_c.specs.declared.answer.Answer.{Answer}
use Rattle.osc_c.specs.declared.state.State.{State}

pub caller_0 : (performance : Performance) → 0 < (state_of performance).callers
caller_0 performance = omega (arith, callers_never_fall (opening performance.caps) performance.history)

-- So its event is answered as any event, and goes on, wherever the server is open.

answered_0 : (performance : Option Performance) (answer : Answer) → (performance ≡ None → answer ≡ bare 16) → answered_to performance 0 answer ≡ answer
answered_0 None answer closed = sym (closed refl)
answered_0 (Some performance) answer closed =
    let enrolled : nat_lt 0 (state_of performance).callers ≡ true = grind (arith, nat_tests, caller_0 performance) in rw enrolled refl

done_0 : {X : Type 0} (performance : Option Performance) (next before : X) → (performance ≡ None → next ≡ before) → done_by performance 0 next before ≡ next
done_0 None next before closed = sym (closed refl)
done_0 (Some performance) next before closed =
    let enrolled : nat_lt 0 (state_of performance).callers ≡ true = grind (arith, nat_tests, caller_0 performance) in rw enrolled refl

pub event_answered : (performance : Option Performance) (event : Event) → answered_to performance 0 (answered performance event) ≡ answered performance event
event_answered performance event = answered_0 performance (answered performance event) (ap (λ (p : Option Performance). answered p event))

pub event_done : (performance : Option Performance) (event : Event)
    → done_by performance 0 (after performance 0 event) performance ≡ after performance 0 event
event_done None event = refl
event_done (Some performance) event = done_0 (Some performance) (after (Some performance) 0 event) (Some performance) (λ closed. absurd (cc))

closed_submit : (fault : Option Fault) (bytes : List ℕ) → submit_answered fault None bytes ≡ bare 16
closed_submit (Some fault) bytes = refl
closed_submit None bytes = refl

pub submit_0 : (fault : Option Fault) (performance : Option Performance) (bytes : List ℕ)
    → answered_to performance 0 (submit_answered fault performance bytes) ≡ submit_answered fault performance bytes
submit_0 fault None bytes = sym (closed_submit fault bytes)
submit_0 fault (Some performance) bytes = answered_0 (Some performance) (submit_answered fault (Some performance) bytes) (λ closed. absurd (cc))

pub submit_done : (fault : Option Fault) (performance : Option Performance) (bytes : List ℕ)
    → done_by performance 0 (after_submit fault performance 0 bytes) performance ≡ after_submit fault performance 0 bytes
submit_done (Some fault) None bytes = refl
submit_done None None bytes = refl
submit_done fault (Some performance) bytes = done_0 (Some performance) (after_submit fault (Some performance) 0 bytes) (Some performance) (λ closed. absurd (cc))

pub release_0 : (held : Option State) → done_by (played held) 0 (released_in (played held)) (left held) ≡ released_in (played held)
release_0 None = refl
release_0 (Some state) = done_0 (played (Some state)) (released_in (played (Some state))) (left (Some state)) (λ closed. absurd (cc))
