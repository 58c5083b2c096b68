use Rattle.osc_queue.proofs.Unique.{same_items}
use Rattle.osc_queue.proofs.laws.the_order_is_one.Goals as goal

pub returns : goal.returns
returns g c = same_items
