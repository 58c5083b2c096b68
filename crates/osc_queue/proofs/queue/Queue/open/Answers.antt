use Rattle.std.proofs.Common.{arith, length, ap}
use Rattle.osc_queue.proofs.Heads.{none_heap, none_apart}
use Rattle.osc_queue.proofs.queue.Queue.open.Goals as goal

pub invariant_of-result : goal.invariant_of-result
invariant_of-result g c = record {
  heap = none_heap c.in_ok-with_capacity.field-0.items c.in_ok-with_capacity.ensures.items;
  apart = none_apart c.in_ok-with_capacity.field-0.items c.in_ok-with_capacity.ensures.items;
  within = omega (arith, ap length c.in_ok-with_capacity.ensures.items);
  reserved = c.in_ok-with_capacity.ensures.capacity;
}
