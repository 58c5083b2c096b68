use Rattle.std.proofs.Common.{◌≡◌, ◌++◌, map, Ok}
use Rattle.std.specs.Vec.Iter.{into_iter_items}
use Rattle.osc_life.proofs.crowd.all_ended.Given as goal

abbrev pub invariant-loop-end : goal.invariant-loop-end
invariant-loop-end g l = map Ok l.all.items ++ into_iter_items l.end-iterator ≡ l.fn.ends.items
