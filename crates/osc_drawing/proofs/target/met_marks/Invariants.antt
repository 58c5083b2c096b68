use Rattle.std.proofs.Common.{◌≡◌, ◌++◌, length}
use Rattle.osc_drawing.specs.Marks.{met_marks}
use Rattle.osc_drawing.proofs.target.met_marks.Given as goal

abbrev pub invariant-loop-method : goal.invariant-loop-method
invariant-loop-method l = l.marks.items ++ met_marks l.draft l.message l.rest ≡ met_marks l.draft l.message l.methods

abbrev pub decreases-loop-method : goal.decreases-loop-method
decreases-loop-method l = length l.rest
