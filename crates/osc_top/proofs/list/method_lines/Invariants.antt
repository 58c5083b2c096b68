use Rattle.std.proofs.Common.{◌≡◌, ◌++◌, drop}
use Rattle.osc_top.specs.Watched.{rows_text}
use Rattle.osc_top.proofs.list.method_lines.Given as goal

abbrev pub invariant-loop-row : goal.invariant-loop-row
invariant-loop-row l =
    l.text ++ rows_text (drop l.row-index l.rows) ≡ l.initial.text ++ rows_text l.rows
