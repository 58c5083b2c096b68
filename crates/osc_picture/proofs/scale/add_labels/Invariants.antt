use Rattle.std.proofs.Common.{◌≡◌, ◌++◌, length}
use Rattle.osc_picture.specs.Scales.{labels, counts}
use Rattle.osc_picture.proofs.scale.add_labels.Given as goal

-- what is added, and what the rest adds, is all
abbrev pub invariant-loop-k : goal.invariant-loop-k
invariant-loop-k l =
    l.out.items ++ labels l.frame l.top l.bottom l.rest ≡ l.initial.out.items ++ labels l.frame l.top l.bottom counts

abbrev pub decreases-loop-k : goal.decreases-loop-k
decreases-loop-k l = length l.rest
