use Rattle.std.proofs.Common.{◌≡◌, length, None}
use Rattle.osc_drawing.specs.Rows.{sort_after}
use Rattle.osc_drawing.proofs.row.sort_of.Given as goal

abbrev pub invariant-loop-mark : goal.invariant-loop-mark
invariant-loop-mark l = sort_after l.sort l.address l.rest ≡ sort_after None l.address l.marks

abbrev pub decreases-loop-mark : goal.decreases-loop-mark
decreases-loop-mark l = length l.rest
