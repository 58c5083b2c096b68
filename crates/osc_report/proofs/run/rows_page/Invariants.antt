use Rattle.std.proofs.Common.{ℕ, List, [], length}
use Rattle.osc_report.specs.declared.span.Span.{Span}
use Rattle.osc_report.specs.Runs.{AddsRows}
use Rattle.osc_report.proofs.run.rows_page.Given as goal

-- what the rest adds to what was told, all adds to nothing
abbrev pub invariant-loop-row : goal.invariant-loop-row
invariant-loop-row l =
    (after : List ℕ) (now : Span) → AddsRows l.options l.now l.rest l.told.items after now → AddsRows l.fn.options l.fn.span l.fn.rows [] after now

abbrev pub decreases-loop-row : goal.decreases-loop-row
decreases-loop-row l = length l.rest
