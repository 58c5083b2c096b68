use Rattle.std.proofs.Common.{◌≡◌, ◌++◌, length}
use Rattle.osc_picture.specs.Strips.{lives}
use Rattle.osc_picture.proofs.strip.add_lives.Given as goal

-- what is added, and what the rest adds, is all
abbrev pub invariant-loop-shelf : goal.invariant-loop-shelf
invariant-loop-shelf l =
    l.out.items ++ lives l.frame l.places l.rest ≡ l.initial.out.items ++ lives l.frame l.shelves l.rows

abbrev pub decreases-loop-shelf : goal.decreases-loop-shelf
decreases-loop-shelf l = length l.rest
