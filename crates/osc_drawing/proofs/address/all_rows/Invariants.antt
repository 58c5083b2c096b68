use Rattle.std.proofs.Common.{◌≡◌, [], length}
use Rattle.osc_drawing.specs.Rows.{more_rows}
use Rattle.osc_drawing.proofs.address.all_rows.Given as goal

abbrev pub invariant-loop-mark : goal.invariant-loop-mark
invariant-loop-mark l = more_rows l.rows.items l.rest ≡ more_rows [] l.marks

abbrev pub decreases-loop-mark : goal.decreases-loop-mark
decreases-loop-mark l = length l.rest
