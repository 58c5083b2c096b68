use Rattle.std.proofs.Common.{◌≡◌, ◌++◌, map}
use Rattle.std.specs.Vec.Iter.{into_iter_items}
use Rattle.osc_life.specs.Works.{caller_in, end_in}
use Rattle.osc_life.proofs.crowd.split_ends.Given as goal

abbrev pub invariant-loop-done : goal.invariant-loop-done
invariant-loop-done g l = record {
  callers : l.callers.items ++ map caller_in (into_iter_items l.done-iterator) ≡ map caller_in l.fn.all.items;
  ends : l.ends.items ++ map end_in (into_iter_items l.done-iterator) ≡ map end_in l.fn.all.items;
}
