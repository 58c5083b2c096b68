use Rattle.std.proofs.Common.{◌≡◌, length}
use Rattle.osc_picture.specs.Scales.{first_fit, steps}
use Rattle.osc_picture.proofs.scale.step_of.Given as goal

-- the first that fits is among those that are left
abbrev pub invariant-loop-step : goal.invariant-loop-step
invariant-loop-step l = first_fit l.length l.rest ≡ first_fit l.length steps

abbrev pub decreases-loop-step : goal.decreases-loop-step
decreases-loop-step l = length l.rest
