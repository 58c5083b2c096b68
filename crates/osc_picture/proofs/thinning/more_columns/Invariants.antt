use Rattle.std.proofs.Common.{◌≡◌, length, None}
use Rattle.osc_picture.specs.Thinnings.{more_columns}
use Rattle.osc_picture.proofs.thinning.more_columns.Given as goal

abbrev pub invariant-loop-at : goal.invariant-loop-at
invariant-loop-at l = more_columns l.frame l.count l.before l.rest ≡ more_columns l.frame l.begun None l.moments

abbrev pub decreases-loop-at : goal.decreases-loop-at
decreases-loop-at l = length l.rest
