use Rattle.std.proofs.Common.{◌≡◌, length, None}
use Rattle.osc_picture.specs.Thinnings.{more_marks}
use Rattle.osc_picture.proofs.thinning.count_marks.Given as goal

abbrev pub invariant-loop-row : goal.invariant-loop-row
invariant-loop-row l = more_marks l.frame l.count l.rest ≡ more_marks l.frame 0 l.rows

abbrev pub decreases-loop-row : goal.decreases-loop-row
decreases-loop-row l = length l.rest
