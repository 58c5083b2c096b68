use Rattle.std.proofs.Common.{◌≤◌, ◌+◌, ◌-◌, length, take, vec_capacity}
use Rattle.osc_tree.specs.Views.{methods_at}
use Rattle.osc_tree.specs.Walking.{most_steps, IsWalked}
use Rattle.osc_tree.proofs.course.walk_found.Given as goal

abbrev pub invariant-loop-at : goal.invariant-loop-at
invariant-loop-at g l = record {
  walked : IsWalked l.walk.pattern.now (methods_at l.walk.methods.now l.walk.places.now) l.at l.ids.items;
  capacity : vec_capacity l.initial.ids ≤ vec_capacity l.ids;
  counted : l.initial.steps ≤ l.steps;
  bounded : l.steps ≤ l.initial.steps + most_steps l.walk.pattern.now (take l.at (methods_at l.walk.methods.now l.walk.places.now));
}

abbrev pub decreases-loop-at : goal.decreases-loop-at
decreases-loop-at g l = length l.walk.places.now - l.at
