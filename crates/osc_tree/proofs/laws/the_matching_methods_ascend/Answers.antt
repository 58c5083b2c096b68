use Rattle.osc_tree.proofs.Orders.{exactly_matching, matching_ascend}
use Rattle.osc_tree.proofs.laws.the_matching_methods_ascend.Goals as goal

pub returns-clause-exactly : goal.returns-clause-exactly
returns-clause-exactly c = exactly_matching

pub returns-clause-ascending : goal.returns-clause-ascending
returns-clause-ascending c = matching_ascend
