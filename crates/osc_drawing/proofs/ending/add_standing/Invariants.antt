use Rattle.std.proofs.Common.{◌≡◌, ◌++◌, length}
use Rattle.osc_drawing.specs.Endings.{standing_marks}
use Rattle.osc_drawing.proofs.ending.add_standing.Given as goal

abbrev pub invariant-loop-method : goal.invariant-loop-method
invariant-loop-method l = l.out.items ++ standing_marks l.end l.came l.rest ≡ l.initial.out.items ++ standing_marks l.end l.came l.methods

abbrev pub decreases-loop-method : goal.decreases-loop-method
decreases-loop-method l = length l.rest
