use Rattle.std.proofs.Common.{◌-◌, ◌++◌, arith}
use Rattle.osc_shown.specs.Places.{hits, listed}
use Rattle.osc_shown.proofs.Listing.{listed_on}
use Rattle.osc_shown.proofs.destination.add_listed.Goals as goal

pub loop-left-preserved : goal.loop-left-preserved
loop-left-preserved c =
    let pattern = c.args.pattern.now in
    let left = c.loop-left.left in
    listed_on left (left - 1) c.in-Some.hit.now (hits pattern c.in-Some.after.now) (hits pattern c.loop-left.rest.now)
    c.loop-left.out.items c.add_hit.new.out.items (c.args.out.now.items ++ listed c.args.most (hits pattern c.args.routes.now))
    (omega arith) c.in-Some.ensures.some c.loop-left.invariant c.in_ok-add_hit.ensures
