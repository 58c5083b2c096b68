use Rattle.std.proofs.Common.{◌≡◌, [], length}
use Rattle.osc_drawing.specs.Headings.{more_never}
use Rattle.osc_drawing.proofs.address.all_never.Given as goal

abbrev pub invariant-loop-mark : goal.invariant-loop-mark
invariant-loop-mark l = more_never l.rows l.never.items l.rest ≡ more_never l.rows [] l.marks

abbrev pub decreases-loop-mark : goal.decreases-loop-mark
decreases-loop-mark l = length l.rest
