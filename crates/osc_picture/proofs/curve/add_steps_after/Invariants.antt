use Rattle.std.proofs.Common.{◌≡◌, ◌++◌, length}
use Rattle.osc_picture.specs.Curves.{steps_after}
use Rattle.osc_picture.proofs.curve.add_steps_after.Given as goal

-- what is added, and what the rest adds, is all
abbrev pub invariant-loop-call : goal.invariant-loop-call
invariant-loop-call l =
    l.out.items ++ steps_after l.frame l.range l.begun.0 l.bend l.rest
    ≡ l.initial.out.items ++ steps_after l.frame l.range l.begun.0 l.begun.1 l.calls

abbrev pub decreases-loop-call : goal.decreases-loop-call
decreases-loop-call l = length l.rest
