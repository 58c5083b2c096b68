use Rattle.std.proofs.Common.{ap, ◌∙◌}
use Rattle.osc_tree.specs.Matching.{matching_ids}
use Rattle.osc_tree.specs.Views.{methods_of}
use Rattle.osc_tree.proofs.Gathered.{chosen_is}
use Rattle.osc_tree.proofs.matches.add_choice.Goals as goal

pub returns-clause-ids : goal.returns-clause-ids
returns-clause-ids c =
    let choice = c.in-Some.choice in
    c.add_chosen.ensures.ids
    ∙ chosen_is c.args.methods.now c.args.places.now c.bytes.result.now choice.front.now choice.texts.now choice.back.now c.requires.list c.requires.order
    c.bytes.ensures.lawful.slash c.in-Some.ensures
    ∙ ap (λ l. matching_ids l (methods_of c.args.methods.now)) c.bytes.ensures.value
