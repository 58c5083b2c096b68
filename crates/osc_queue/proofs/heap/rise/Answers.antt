use Rattle.std.proofs.Common.{◌≤◌, ◌-◌, ◌^◌, ◌*◌, ◌+◌, ℕ, sym, subst, arith}
use Rattle.std.proofs.lemmas.List.Sorted.{IsPermutation-trans, length_permutation}
use Rattle.osc_queue.specs.Views.{above}
use Rattle.osc_queue.proofs.Depths.{rises_by, rises_last}
use Rattle.osc_queue.proofs.heap.rise.Goals as goal

pub loop-place-preserved : goal.loop-place-preserved
loop-place-preserved g c =
    let low = c.loop-place-test.true in
    let within = c.loop-place.invariant.within low in
    let counted = c.loop-place.invariant.counted in
    let long = length_permutation c.loop-place.entries c.rise_once.new.entries c.rise_once.ensures.same in
    record {
      within = λ some. omega (arith, within, long);
      heap = c.rise_once.ensures.risen c.if-rise_once.true;
      same = IsPermutation-trans _ _ _ c.loop-place.invariant.same c.rise_once.ensures.same;
      counted = omega (arith, counted, c.rise_once.ensures.counted);
      bounded = subst (λ (n : ℕ). (above c.loop-place.place + 1) * 2 ^ (n - c.args.steps.now) ≤ c.args.place + 1) (sym c.rise_once.ensures.counted)
          (rises_by c.loop-place.place c.args.steps.now c.loop-place.steps (c.args.place + 1) low counted c.loop-place.invariant.bounded);
    }

pub returns-else-rise_once-clause-same : goal.returns-else-rise_once-clause-same
returns-else-rise_once-clause-same g c = IsPermutation-trans _ _ _ c.loop-place.invariant.same c.rise_once.ensures.same

pub returns-else-rise_once-clause-bounded : goal.returns-else-rise_once-clause-bounded
returns-else-rise_once-clause-bounded g c =
    subst (λ (n : ℕ). 2 ^ (n - c.args.steps.now) ≤ c.args.place + 1) (sym c.rise_once.ensures.counted)
    (rises_last c.loop-place.place c.args.steps.now c.loop-place.steps (c.args.place + 1) c.loop-place-test.true c.loop-place.invariant.counted
    c.loop-place.invariant.bounded)
