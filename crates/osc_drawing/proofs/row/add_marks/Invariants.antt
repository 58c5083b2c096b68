use Rattle.std.proofs.Common.{◌≡◌, length}
use Rattle.osc_drawing.specs.Rows.{drawn_of, with_marks}
use Rattle.osc_drawing.proofs.row.add_marks.Given as goal

abbrev pub invariant-loop-mark : goal.invariant-loop-mark
invariant-loop-mark l = with_marks l.view l.rest (drawn_of l.row) ≡ with_marks l.view l.marks (drawn_of l.initial.row)

abbrev pub decreases-loop-mark : goal.decreases-loop-mark
decreases-loop-mark l = length l.rest
