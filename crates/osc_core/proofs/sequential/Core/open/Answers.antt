use Rattle.osc_core.proofs.Telling.{keeps_none}
use Rattle.osc_core.proofs.sequential.Core.open.Goals as goal

pub invariant_of-result-clause-within : goal.invariant_of-result-clause-within
invariant_of-result-clause-within g c =
    let last = c.in_ok-open-2.ensures in
    (keeps_none c.in_ok-open-2.field-0 c.in_ok-open.field-0 last.calls last.place (λ i. (c.in_ok-open.ensures i).history)).within

pub invariant_of-result-clause-calls : goal.invariant_of-result-clause-calls
invariant_of-result-clause-calls g c =
    let last = c.in_ok-open-2.ensures in
    (keeps_none c.in_ok-open-2.field-0 c.in_ok-open.field-0 last.calls last.place (λ i. (c.in_ok-open.ensures i).history)).calls
