use Rattle.std.proofs.Common.{◌≡◌, ◌++◌, length}
use Rattle.osc_drawing.specs.Endings.{waiting_marks}
use Rattle.osc_drawing.proofs.ending.add_waiting.Given as goal

abbrev pub invariant-loop-unit : goal.invariant-loop-unit
invariant-loop-unit l = l.out.items ++ waiting_marks l.end l.came l.methods l.rest ≡ l.initial.out.items ++ waiting_marks l.end l.came l.methods l.units

abbrev pub decreases-loop-unit : goal.decreases-loop-unit
decreases-loop-unit l = length l.rest
