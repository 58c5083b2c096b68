use Rattle.osc_tree.proofs.Counts.{one_more_method}
use Rattle.osc_tree.proofs.laws.an_address_adds_its_new_nodes.Goals as goal

pub returns : goal.returns
returns c = one_more_method
