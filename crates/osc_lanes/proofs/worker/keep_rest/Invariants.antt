use Rattle.std.proofs.Common.{◌≡◌, ◌++◌}
use Rattle.std.specs.Vec.Iter.{into_iter_items}
use Rattle.osc_lanes.proofs.worker.keep_rest.Given as goal

abbrev pub invariant-loop-method : goal.invariant-loop-method
invariant-loop-method g l = l.back.items ++ into_iter_items l.method-iterator ≡ l.initial.back.items ++ into_iter_items l.initial.method-iterator
