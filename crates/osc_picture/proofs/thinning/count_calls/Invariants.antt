use Rattle.std.proofs.Common.{◌≡◌, length, None}
use Rattle.osc_picture.specs.Thinnings.{more_calls}
use Rattle.osc_picture.proofs.thinning.count_calls.Given as goal

abbrev pub invariant-loop-row : goal.invariant-loop-row
invariant-loop-row l = more_calls l.count l.rest ≡ more_calls 0 l.rows

abbrev pub decreases-loop-row : goal.decreases-loop-row
decreases-loop-row l = length l.rest
