use Rattle.std.proofs.Common.{◌≡◌, ◌++◌}
use Rattle.std.specs.Vec.Iter.{into_iter_items}
use Rattle.osc_player.proofs.performance.keep_rest.Given as goal

abbrev pub invariant-loop-method : goal.invariant-loop-method
invariant-loop-method g l = l.left.items ++ into_iter_items l.method-iterator ≡ l.initial.left.items ++ into_iter_items l.initial.method-iterator
