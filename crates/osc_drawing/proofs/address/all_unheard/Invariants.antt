use Rattle.std.proofs.Common.{◌≡◌, [], length}
use Rattle.osc_drawing.specs.Rows.{more_unheard}
use Rattle.osc_drawing.proofs.address.all_unheard.Given as goal

abbrev pub invariant-loop-mark : goal.invariant-loop-mark
invariant-loop-mark l = more_unheard l.rows l.unheard.items l.rest ≡ more_unheard l.rows [] l.marks

abbrev pub decreases-loop-mark : goal.decreases-loop-mark
decreases-loop-mark l = length l.rest
