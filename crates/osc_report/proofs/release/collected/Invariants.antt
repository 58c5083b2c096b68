use Rattle.std.proofs.Common.{◌≡◌, ◌++◌}
use Rattle.osc_report.proofs.release.collected.Given as goal

-- the calls so far and those that are left are all
abbrev pub invariant-loop-call : goal.invariant-loop-call
invariant-loop-call l = record {
  can : (goal.iterator-loop-call).can_next l.call-iterator;
  finite : (goal.iterator-loop-call).is_finite l.call-iterator;
  said : l.calls.items ++ l.call-iterator ≡ l.fn.left;
}
