use Rattle.osc_queue.proofs.Orders.{head_least}
use Rattle.osc_queue.proofs.Unique.{only_head}
use Rattle.osc_queue.proofs.laws.the_head_is_the_least.Goals as goal

pub returns-clause-least : goal.returns-clause-least
returns-clause-least g c = head_least

pub returns-clause-only : goal.returns-clause-only
returns-clause-only g c item other items = only_head other item items
