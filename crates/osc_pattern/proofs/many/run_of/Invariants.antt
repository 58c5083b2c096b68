use Rattle.std.proofs.Common.{◌≤◌, length}
use Rattle.osc_pattern.proofs.many.run_of.Given as goal

abbrev pub invariant-loop-others : goal.invariant-loop-others
invariant-loop-others l = length l.rest ≤ length l.part

abbrev pub decreases-loop-others : goal.decreases-loop-others
decreases-loop-others l = length l.rest
