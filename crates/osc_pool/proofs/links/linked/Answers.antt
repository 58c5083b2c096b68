use Rattle.std.proofs.Common.{◌+◌, arith}
use Rattle.std.proofs.lemmas.Slice.{pushed}
use Rattle.osc_pool.proofs.Opened.{range_more}
use Rattle.osc_pool.proofs.links.linked.Goals as goal

pub loop-block-preserved : goal.loop-block-preserved
loop-block-preserved c = rw (pushed _ c.loop-block.invariant c.in_ok-push.was c.push.ensures.items) (range_more 1 c.loop-block.block
    (c.loop-block.block + 1) (omega arith))
