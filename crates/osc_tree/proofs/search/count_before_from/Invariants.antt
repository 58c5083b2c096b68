use Rattle.std.proofs.Common.{◌≤◌, ◌-◌, ◌++◌, length}
use Rattle.osc_tree.specs.Order.{IsSearched, IsNarrowed}
use Rattle.osc_tree.specs.Views.{methods_at}
use Rattle.osc_tree.proofs.search.count_before_from.Given as goal

abbrev pub invariant-loop-low : goal.invariant-loop-low
invariant-loop-low l = record {
  on : l.from ≤ l.low.place;
  known : IsSearched (l.text ++ l.tail) (methods_at l.methods l.places) l.low.place (length l.places);
  narrowed : IsNarrowed l.text (methods_at l.methods l.places) l.low.place (length l.places) l.low.begun 0;
}

abbrev pub decreases-loop-low : goal.decreases-loop-low
decreases-loop-low l = length l.places - l.low.place
