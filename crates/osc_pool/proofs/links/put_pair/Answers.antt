use Rattle.std.proofs.Common.{arith, ◌++◌}
use Rattle.osc_pool.proofs.Reached.{put_is}
use Rattle.osc_pool.proofs.links.put_pair.Goals as goal

pub returns-clause-put : goal.returns-clause-put
returns-clause-put c limit within few =
    put_is limit c.args.blocks.now.items c.reach.new.blocks.items c.args.block (c.args.head.now ++ c.args.bytes.now) c.fill_pair.new.block
    (omega (arith, c.reach.ensures.len)) (c.reach.ensures.same limit (omega (arith, within)) few) c.fill_pair.ensures.taken c.fill_pair.ensures.whole
    (omega (arith, c.reach.ensures.len)) (omega (arith, c.reach.ensures.len, within, few))
