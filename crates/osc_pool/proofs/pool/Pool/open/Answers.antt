use Rattle.osc_pool.proofs.Opened.{opened_laid, opened_view}
use Rattle.osc_pool.proofs.pool.Pool.open.Goals as goal

pub invariant_of-result : goal.invariant_of-result
invariant_of-result c =
    rw (c.in_ok-with_capacity.ensures.items, c.in_ok-linked.ensures, c.in_ok-copies.ensures)
    (opened_laid c.args.blocks _ c.requires c.in_ok-with_capacity.ensures.capacity)

pub returns : goal.returns
returns c = opened_view _ _ _ c.args.blocks c.in_ok-copies.ensures
