use Rattle.std.proofs.Common.{◌≡◌, take}
use Rattle.osc_watch.proofs.rows.copied_rows.Given as goal

-- the rows so far are copied
abbrev pub invariant-loop-row : goal.invariant-loop-row
invariant-loop-row l = l.copies.items ≡ take l.row-index l.fn.rows
