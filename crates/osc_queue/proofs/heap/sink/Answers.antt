use Rattle.std.proofs.Common.{◌≤◌, inl, inr, length, arith}
use Rattle.std.proofs.lemmas.Bool.{cases_lt}
use Rattle.std.proofs.lemmas.List.Sorted.{IsPermutation-trans, length_permutation}
use Rattle.osc_queue.proofs.Depths.{both_ways}
use Rattle.osc_queue.proofs.heap.sink.Goals as goal

pub returns-clause-same : goal.returns-clause-same
returns-clause-same g c = IsPermutation-trans _ _ _ c.fall-place.ensures.same c.rise.ensures.same

pub returns-clause-bounded : goal.returns-clause-bounded
returns-clause-bounded g c =
    let place = c.fall-place.result in
    let long = length_permutation c.args.entries.now c.fall-place.new.entries c.fall-place.ensures.same in
    let within : place ≤ length c.args.entries.now = elim (cases_lt 0 place) [
      | inl some ↦ omega (arith, c.fall-place.ensures.within some, long)
      | inr none ↦ omega (arith, none)
    ] in
    both_ways place c.args.steps.now c.fall-place.new.steps c.rise.new.steps (length c.args.entries.now) within c.fall-place.ensures.counted
    c.rise.ensures.counted c.fall-place.ensures.bounded c.rise.ensures.bounded
