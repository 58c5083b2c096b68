-- A release takes no unit whose tag is after the clock.
use Rattle.std.proofs.Common.{◌≡◌, ◌≤◌, ◌∷◌, inl, inr, arith}
use Rattle.std.specs.List.{AllByRecursion}
use Rattle.std.proofs.lemmas.List.Elements.{All-contains, All-from_recursion}
use Rattle.std.proofs.lemmas.List.Sorted.{IsPermutation-sym, Contains-permutation}
use Rattle.osc_queue.specs.Timed.{unit_of, due_of}
use Rattle.osc_model.specs.State.{State, Queued}
use Rattle.osc_model.specs.Step.{Stepped}
use Rattle.osc_model.specs.Releases.{ReleasesLeast}
use Rattle.osc_laws.proofs.Members.{head_in}
use Rattle.osc_uses.specs.Early.{IsNotEarly}

abbrev WaitsForItsTag : Queued → Type 0
WaitsForItsTag unit = unit.2.tag ≤ due_of unit

pub not_early : (state : State) (stepped : Stepped) → ReleasesLeast state stepped → AllByRecursion (λ (unit : Queued). unit.2.tag ≤ due_of unit) state.queue
    → IsNotEarly state stepped
not_early state stepped (inl taken) waits number hits is =
    let others = IsPermutation-sym state.queue (taken.unit ∷ stepped.state.queue) taken.others in
    let there = Contains-permutation (taken.unit ∷ stepped.state.queue) state.queue taken.unit others (head_in taken.unit stepped.state.queue) in
    let all = All-from_recursion WaitsForItsTag state.queue waits in
    let tag : taken.unit.2.tag ≤ due_of taken.unit = All-contains WaitsForItsTag state.queue taken.unit all there in
    let due : due_of taken.unit ≤ state.clock = taken.due in
    let number_is : unit_of taken.unit ≡ number = cc (taken.answer) in
    (taken.unit, there, number_is, omega arith)
not_early state stepped (inr (inl found)) waits number hits is = absurd (cc (found.answer))
not_early state stepped (inr (inr full)) waits number hits is = absurd (cc (full.answer))
