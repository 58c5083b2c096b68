use Rattle.std.proofs.Common.{List, ℕ, length}
use Rattle.osc_report.specs.Endings.{AddsWaiting}
use Rattle.osc_report.proofs.ending.add_waiting.Given as goal

-- whatever the units that are left add, all add
abbrev pub invariant-loop-unit : goal.invariant-loop-unit
invariant-loop-unit l =
    (after : List ℕ) → AddsWaiting l.options l.front l.rest l.out.items after → AddsWaiting l.options l.front l.units l.initial.out.items after

abbrev pub decreases-loop-unit : goal.decreases-loop-unit
decreases-loop-unit l = length l.rest
