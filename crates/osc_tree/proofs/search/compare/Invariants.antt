use Rattle.std.proofs.Common.{◌≡◌, ◌++◌, take, drop, true}
use Rattle.osc_tree.specs.Order.{is_before, begins_with}
use Rattle.osc_tree.specs.Views.{method_at}
use Rattle.osc_tree.proofs.Ranges.{lower}
use Rattle.osc_tree.proofs.search.compare.Given as goal

abbrev pub invariant-loop-at : goal.invariant-loop-at
invariant-loop-at l = record {
  before : is_before (l.text ++ l.tail) (method_at l.methods l.place) ≡ lower (drop l.at l.address) (drop l.at l.text ++ l.tail);
  begun : begins_with (take l.at l.text) (method_at l.methods l.place) ≡ true;
}
