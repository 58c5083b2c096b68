use Rattle.std.proofs.Common.{◌≡◌, ◌++◌, length, None}
use Rattle.osc_picture.specs.Columns.{marks}
use Rattle.osc_picture.proofs.column.add_marks.Given as goal

-- what is added, and what the rest adds, is all
abbrev pub invariant-loop-at : goal.invariant-loop-at
invariant-loop-at l =
    l.out.items ++ marks l.frame l.width l.mark l.before l.rest ≡ l.initial.out.items ++ marks l.frame l.width l.mark None l.moments

abbrev pub decreases-loop-at : goal.decreases-loop-at
decreases-loop-at l = length l.rest
