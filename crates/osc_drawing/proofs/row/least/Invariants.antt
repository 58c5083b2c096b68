use Rattle.std.proofs.Common.{◌≡◌, length}
use Rattle.osc_drawing.specs.Numbers.{zero_at}
use Rattle.osc_drawing.specs.Rows.{least}
use Rattle.osc_drawing.proofs.row.least.Given as goal

abbrev pub invariant-loop-call : goal.invariant-loop-call
invariant-loop-call l = least l.low l.rest ≡ least zero_at l.calls

abbrev pub decreases-loop-call : goal.decreases-loop-call
decreases-loop-call l = length l.rest
