use Rattle.std.proofs.Common.{◌≡◌, ◌++◌, length, None}
use Rattle.osc_picture.specs.Waits.{wait_squares}
use Rattle.osc_picture.proofs.wait.add_squares.Given as goal

-- what is added, and what the rest adds, is all
abbrev pub invariant-loop-wait : goal.invariant-loop-wait
invariant-loop-wait l =
    l.out.items ++ wait_squares l.frame l.y l.before l.rest ≡ l.initial.out.items ++ wait_squares l.frame l.y None l.waits

abbrev pub decreases-loop-wait : goal.decreases-loop-wait
decreases-loop-wait l = length l.rest
