use Rattle.std.proofs.Common.{arith}
use Rattle.osc_tree.specs.Views.{methods_at}
use Rattle.osc_tree.proofs.Flats.{flat_few}
use Rattle.osc_tree.proofs.InOrder.{methods_at-length}
use Rattle.osc_tree.proofs.flat.add_near.Goals as goal

pub returns-clause-len : goal.returns-clause-len
returns-clause-len c =
    let long = methods_at-length c.args.methods.now c.args.near.now in
    let few = flat_few (methods_at c.args.methods.now c.args.near.now) c.loop-at.at c.args.flat.now.from c.args.flat.now.tail.now c.loop-at.ids.items
    (omega (arith, c.loop-at.invariant.bound)) c.loop-at.invariant.found in
    omega (arith, c.loop-at.invariant.bound)
