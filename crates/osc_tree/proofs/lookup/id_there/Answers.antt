use Rattle.std.proofs.Common.{sym}
use Rattle.osc_tree.specs.Views.{methods_of}
use Rattle.osc_tree.proofs.Lines.{none-id_at}
use Rattle.osc_tree.proofs.Lookups.{id_at_place}
use Rattle.osc_tree.proofs.lookup.id_there.Goals as goal

pub returns-then-not-is_there : goal.returns-then-not-is_there
returns-then-not-is_there c = sym (none-id_at (methods_of c.args.methods.now) c.args.address.now c.if-not-is_there.ensures)

pub returns : goal.returns
returns c =
    sym (id_at_place c.args.methods.now c.args.places.now c.args.at c.args.address.now c.index-methods-places.result c.requires.list c.requires.order
    c.if-not-is_there.ensures)
