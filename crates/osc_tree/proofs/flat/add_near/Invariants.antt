use Rattle.std.proofs.Common.{◌≡◌, ◌≤◌, ◌-◌, length, take, filter, map, vec_capacity}
use Rattle.osc_pattern.specs.Methods.{Method}
use Rattle.osc_tree.specs.Order.{is_flat}
use Rattle.osc_tree.specs.Views.{methods_at}
use Rattle.osc_tree.proofs.flat.add_near.Given as goal

abbrev pub invariant-loop-at : goal.invariant-loop-at
invariant-loop-at l = record {
  bound : l.at ≤ length l.near;
  found : l.ids.items ≡ map (λ (method : Method). method.id) (filter (is_flat l.flat.from l.flat.tail.now) (take l.at (methods_at l.methods l.near)));
  capacity : vec_capacity l.initial.ids ≤ vec_capacity l.ids;
}

abbrev pub decreases-loop-at : goal.decreases-loop-at
decreases-loop-at l = length l.near - l.at
