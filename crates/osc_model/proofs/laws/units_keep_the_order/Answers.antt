use Rattle.osc_model.proofs.Queues.{next_new, one_ordered, one_numbered, all_ordered, all_numbered}
use Rattle.osc_model.proofs.laws.units_keep_the_order.Goals as goal

pub returns-clause-new : goal.returns-clause-new
returns-clause-new c = next_new

pub returns-clause-one : goal.returns-clause-one
returns-clause-one c = one_ordered

pub returns-clause-one_number : goal.returns-clause-one_number
returns-clause-one_number c = one_numbered

pub returns-clause-all : goal.returns-clause-all
returns-clause-all c = all_ordered

pub returns-clause-all_numbers : goal.returns-clause-all_numbers
returns-clause-all_numbers c = all_numbered
