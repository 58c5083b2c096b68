use Rattle.std.proofs.Common.{◌≡◌, ◌++◌, length}
use Rattle.osc_picture.specs.Bundles.{ties_after}
use Rattle.osc_picture.proofs.bundle.add_ties_after.Given as goal

-- what is added, and what the rest adds, is all
abbrev pub invariant-loop-bundle : goal.invariant-loop-bundle
invariant-loop-bundle l =
    l.out.items ++ ties_after l.frame l.shelves l.tie l.rest ≡ l.initial.out.items ++ ties_after l.frame l.shelves l.fn.first l.bundles

abbrev pub decreases-loop-bundle : goal.decreases-loop-bundle
decreases-loop-bundle l = length l.rest
