use Rattle.std.proofs.Common.{sym, arith}
use Rattle.osc_tree.specs.Views.{methods_of}
use Rattle.osc_tree.proofs.Lookups.{above_told, none_above}
use Rattle.osc_tree.proofs.lookup.id_above.Goals as goal

pub returns-in-Some : goal.returns-in-Some
returns-in-Some c =
    sym (above_told (methods_of c.args.methods.now) c.args.address.now c.loop-end.end c.in-Some.id c.id_before.result c.requires.list
    c.loop-end-test.true c.id_before.ensures c.in-Some.is)

pub returns : goal.returns
returns c =
    sym (none_above (methods_of c.args.methods.now) c.args.address.now c.requires.list
    (λ k ge lt slash. c.loop-end.invariant k ge (omega arith) slash))
