use Rattle.std.proofs.Common.{◌≡◌, length}
use Rattle.osc_report.specs.Endings.{more_waiting}
use Rattle.osc_report.proofs.ending.count_waiting.Given as goal

-- the messages so far and those of the units that are left are all
abbrev pub invariant-loop-unit : goal.invariant-loop-unit
invariant-loop-unit l = more_waiting l.count l.rest ≡ more_waiting 0 l.units

abbrev pub decreases-loop-unit : goal.decreases-loop-unit
decreases-loop-unit l = length l.rest
