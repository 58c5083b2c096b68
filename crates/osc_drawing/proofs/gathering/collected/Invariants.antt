use Rattle.std.proofs.Common.{◌≡◌, ◌++◌}
use Rattle.osc_drawing.proofs.gathering.collected.Given as goal

abbrev pub invariant-loop-call : goal.invariant-loop-call
invariant-loop-call l = record {
  can : (goal.iterator-loop-call).can_next l.call-iterator;
  finite : (goal.iterator-loop-call).is_finite l.call-iterator;
  said : l.calls.items ++ l.call-iterator ≡ l.fn.left;
}
