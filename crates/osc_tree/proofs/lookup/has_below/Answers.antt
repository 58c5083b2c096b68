use Rattle.std.proofs.Common.{sym, ◌∙◌}
use Rattle.osc_tree.proofs.Lookups.{none_begins}
use Rattle.osc_tree.proofs.lookup.has_below.Goals as goal

pub returns-else-begins_there : goal.returns-else-begins_there
returns-else-begins_there c =
    let none = c.if-begins_there.false in
    none ∙ sym (none_begins c.args.methods.now c.args.places.now c.args.address.now c.requires.order (sym c.begins_there.ensures ∙ none))
