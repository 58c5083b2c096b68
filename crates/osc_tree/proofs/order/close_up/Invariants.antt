use Rattle.std.proofs.Common.{◌≡◌, ◌++◌, map, take, drop}
use Rattle.osc_tree.specs.Order.{closed_up}
use Rattle.osc_tree.proofs.order.close_up.Given as goal

abbrev pub invariant-loop-other : goal.invariant-loop-other
invariant-loop-other l = l.other-items ≡ map (closed_up l.place) (take l.other-index l.fn.places.items) ++ drop l.other-index l.fn.places.items
