use Rattle.std.proofs.Common.{◌≡◌, ℕ, suc, ◌+◌, ◌-◌, ap, sym, ◌∙◌, arith}
use Rattle.osc_pool.specs.Paths.{path, block_after, times}
use Rattle.osc_pool.proofs.Walks.{path_inside}
use Rattle.osc_pool.proofs.links.last_of.Goals as goal

pub bounds-next-block : goal.bounds-next-block
bounds-next-block c = path_inside _ _ _ _ _ _ c.requires.path (omega arith) c.loop-step.invariant.left

pub loop-step-preserved : goal.loop-step-preserved
loop-step-preserved c =
    let step = c.loop-step._step in
    let block = c.loop-step.block in
    let next = c.args.next.now in
    let more : c.args.count - step ≡ suc (c.args.count - (step + 1)) = omega arith in
    let path_more : c.args.count - step + 1 ≡ suc (c.args.count - (step + 1) + 1) = omega arith in
    record {
      left = λ b. omega (arith, c.loop-step.invariant.left b, ap (λ (n : ℕ). times b (path next n block)) path_more);
      ends = ap (λ (n : ℕ). block_after next n block) (sym more) ∙ c.loop-step.invariant.ends;
    }
