use Rattle.std.proofs.Common.{◌≡◌, length}
use Rattle.osc_picture.specs.Curves.{edge_of}
use Rattle.osc_picture.proofs.curve.edge_of.Given as goal

abbrev pub invariant-loop-life : goal.invariant-loop-life
invariant-loop-life l = edge_of l.frame l.edge l.rest ≡ edge_of l.frame 0 l.lives

abbrev pub decreases-loop-life : goal.decreases-loop-life
decreases-loop-life l = length l.rest
