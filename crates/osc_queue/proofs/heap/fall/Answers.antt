use Rattle.std.proofs.Common.{arith}
use Rattle.std.proofs.lemmas.List.Sorted.{IsPermutation-trans, length_permutation}
use Rattle.osc_queue.proofs.Depths.{falls_by}
use Rattle.osc_queue.proofs.heap.fall.Goals as goal

pub loop-next-preserved : goal.loop-next-preserved
loop-next-preserved g c =
    let counted = c.loop-next.invariant.counted in
    let long = length_permutation c.loop-next.entries c.fall_once.new.entries c.fall_once.ensures.same in
    record {
      within = omega (arith, c.in-Some.ensures.lower.1, long);
      inside = λ some. omega (arith, c.in-Some.ensures.lower.1, long);
      heap = c.in-Some.ensures.fallen;
      same = IsPermutation-trans _ _ _ c.loop-next.invariant.same c.fall_once.ensures.same;
      counted = omega (arith, counted, c.fall_once.ensures.counted.0);
      bounded = falls_by c.loop-next.place c.in-Some.next c.args.steps.now c.loop-next.steps c.fall_once.new.steps c.in-Some.ensures.lower.0 counted
          c.fall_once.ensures.counted.0 c.fall_once.ensures.counted.1 c.loop-next.invariant.bounded;
    }

pub returns-clause-same : goal.returns-clause-same
returns-clause-same g c = IsPermutation-trans _ _ _ c.loop-next.invariant.same c.fall_once.ensures.same
