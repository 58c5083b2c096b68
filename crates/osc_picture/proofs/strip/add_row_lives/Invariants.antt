use Rattle.std.proofs.Common.{◌≡◌, ◌++◌, length}
use Rattle.osc_picture.specs.Strips.{row_lives}
use Rattle.osc_picture.proofs.strip.add_row_lives.Given as goal

-- what is added, and what the rest adds, is all
abbrev pub invariant-loop-life : goal.invariant-loop-life
invariant-loop-life l =
    l.out.items ++ row_lives l.frame l.shelf l.rest ≡ l.initial.out.items ++ row_lives l.frame l.shelf l.lives

abbrev pub decreases-loop-life : goal.decreases-loop-life
decreases-loop-life l = length l.rest
