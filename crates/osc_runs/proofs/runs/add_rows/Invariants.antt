use Rattle.std.proofs.Common.{◌≡◌, ◌++◌, length}
use Rattle.osc_runs.specs.Telling.{rows_text}
use Rattle.osc_runs.proofs.runs.add_rows.Given as goal

-- what is added, and what the rest adds, is all
abbrev pub invariant-loop-row : goal.invariant-loop-row
invariant-loop-row l = l.out.items ++ rows_text l.rest ≡ l.initial.out.items ++ rows_text l.rows

abbrev pub decreases-loop-row : goal.decreases-loop-row
decreases-loop-row l = length l.rest
