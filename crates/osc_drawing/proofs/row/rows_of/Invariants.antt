use Rattle.std.proofs.Common.{◌≡◌, ◌++◌, length, map}
use Rattle.osc_drawing.specs.Rows.{drawn_of, rows_of}
use Rattle.osc_drawing.proofs.row.rows_of.Given as goal

abbrev pub invariant-loop-address : goal.invariant-loop-address
invariant-loop-address l = map drawn_of l.rows.items ++ rows_of l.view l.marks l.rest ≡ rows_of l.view l.marks l.addresses

abbrev pub decreases-loop-address : goal.decreases-loop-address
decreases-loop-address l = length l.rest
