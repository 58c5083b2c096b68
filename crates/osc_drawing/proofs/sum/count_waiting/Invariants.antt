use Rattle.std.proofs.Common.{◌≡◌, length}
use Rattle.osc_drawing.specs.Headings.{more_waiting}
use Rattle.osc_drawing.proofs.sum.count_waiting.Given as goal

abbrev pub invariant-loop-unit : goal.invariant-loop-unit
invariant-loop-unit l = more_waiting l.count l.rest ≡ more_waiting 0 l.units

abbrev pub decreases-loop-unit : goal.decreases-loop-unit
decreases-loop-unit l = length l.rest
