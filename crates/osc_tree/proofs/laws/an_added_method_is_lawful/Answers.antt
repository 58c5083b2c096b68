use Rattle.osc_tree.proofs.Lawful.{added_lawful}
use Rattle.osc_tree.proofs.laws.an_added_method_is_lawful.Goals as goal

pub returns : goal.returns
returns c = added_lawful
