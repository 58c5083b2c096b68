use Rattle.std.proofs.Common.{◌≡◌, false}
use Rattle.osc_queue.specs.Timed.{is_before}
use Rattle.osc_queue.proofs.Orders.{by_due_and_unit, before_by, either, one_way}
use Rattle.osc_queue.proofs.laws.the_order_is_by_due_and_unit.Goals as goal

pub returns-clause-before : goal.returns-clause-before
returns-clause-before g c a b = (by_due_and_unit a b, before_by a b)

pub returns-clause-either : goal.returns-clause-either
returns-clause-either g c = either

pub returns-clause-not_both : goal.returns-clause-not_both
returns-clause-not_both g c a b first second = let e : is_before b a ≡ false = one_way a b first in cc
