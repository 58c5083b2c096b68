use Rattle.std.proofs.Common.{◌≡◌, ◌++◌, length}
use Rattle.osc_picture.specs.Waits.{wait_lines}
use Rattle.osc_picture.proofs.wait.add_lines.Given as goal

-- what is added, and what the rest adds, is all
abbrev pub invariant-loop-wait : goal.invariant-loop-wait
invariant-loop-wait l =
    l.out.items ++ wait_lines l.frame l.y l.edge l.rest ≡ l.initial.out.items ++ wait_lines l.frame l.y 0 l.waits

abbrev pub decreases-loop-wait : goal.decreases-loop-wait
decreases-loop-wait l = length l.rest
