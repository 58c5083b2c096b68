use Rattle.std.proofs.Common.{◌≡◌, ◌++◌, length}
use Rattle.osc_drawing.specs.Ties.{bundles_after, bundles_of}
use Rattle.osc_drawing.proofs.tie.bundles_of.Given as goal

abbrev pub invariant-loop-mark : goal.invariant-loop-mark
invariant-loop-mark l = l.bundles.items ++ bundles_after l.view l.rows l.unheard l.tie l.rest ≡ bundles_of l.view l.rows l.unheard l.marks

abbrev pub decreases-loop-mark : goal.decreases-loop-mark
decreases-loop-mark l = length l.rest
