use Rattle.osc_tree.proofs.Refusing.{first_refuses, none_addable, addable_none}
use Rattle.osc_tree.proofs.laws.an_address_is_refused_by_the_first_line.Goals as goal

pub returns-clause-refused : goal.returns-clause-refused
returns-clause-refused c = first_refuses

pub returns-clause-added : goal.returns-clause-added
returns-clause-added c tree address few = (none_addable tree address few, addable_none tree address)
