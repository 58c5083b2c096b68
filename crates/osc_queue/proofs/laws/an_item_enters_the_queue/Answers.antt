use Rattle.osc_queue.proofs.Orders.{enter_joined, enter_ordered}
use Rattle.osc_queue.proofs.laws.an_item_enters_the_queue.Goals as goal

pub returns-clause-joined : goal.returns-clause-joined
returns-clause-joined g c = enter_joined

pub returns-clause-ordered : goal.returns-clause-ordered
returns-clause-ordered g c = enter_ordered
