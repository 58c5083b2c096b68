use Rattle.std.proofs.Common.{ap}
use Rattle.std.specs.Option.{option_map}
use Rattle.osc_tree.proofs.Refusing.{none_addable}
use Rattle.osc_model.proofs.Registries.{without_lawful, by_id}
use Rattle.osc_model.proofs.Soundness.{new_id}
use Rattle.osc_model.proofs.laws.methods_stay_lawful.Goals as goal

pub returns-clause-addable : goal.returns-clause-addable
returns-clause-addable c tree address lawful none = none_addable tree address lawful.few_methods none

pub returns-clause-new_id : goal.returns-clause-new_id
returns-clause-new_id c = new_id

pub returns-clause-more : goal.returns-clause-more
returns-clause-more c tree id address lawful new spelled none =
    c.an_added_method_is_lawful.ensures tree id address lawful new spelled (none_addable tree address lawful.few_methods none)

pub returns-clause-fewer : goal.returns-clause-fewer
returns-clause-fewer c = without_lawful c.an_address_adds_its_new_nodes.ensures

pub returns-clause-found : goal.returns-clause-found
returns-clause-found c methods method list there = ap (option_map (λ method. method.address)) (by_id methods method list.ids there)
