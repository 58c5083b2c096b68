use Rattle.std.proofs.Common.{◌-◌, ◌++◌}
use Rattle.osc_tree.specs.Order.{IsSearched, IsNarrowed}
use Rattle.osc_tree.specs.Views.{methods_at}
use Rattle.osc_tree.proofs.search.count_between.Given as goal

abbrev pub invariant-loop-low : goal.invariant-loop-low
invariant-loop-low l = record {
  known : IsSearched (l.text ++ l.tail) (methods_at l.methods l.places) l.low.place l.high.place;
  narrowed : IsNarrowed l.text (methods_at l.methods l.places) l.low.place l.high.place l.low.begun l.high.begun;
}

abbrev pub decreases-loop-low : goal.decreases-loop-low
decreases-loop-low l = l.high.place - l.low.place
