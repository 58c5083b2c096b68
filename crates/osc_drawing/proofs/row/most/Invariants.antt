use Rattle.std.proofs.Common.{◌≡◌, length}
use Rattle.osc_drawing.specs.Numbers.{one_at}
use Rattle.osc_drawing.specs.Rows.{most}
use Rattle.osc_drawing.proofs.row.most.Given as goal

abbrev pub invariant-loop-call : goal.invariant-loop-call
invariant-loop-call l = most l.high l.rest ≡ most one_at l.calls

abbrev pub decreases-loop-call : goal.decreases-loop-call
decreases-loop-call l = length l.rest
