use Rattle.std.proofs.Common.{◌≡◌, ◌++◌, length}
use Rattle.osc_drawing.specs.Marks.{all_targets}
use Rattle.osc_drawing.proofs.target.add_kept.Given as goal

abbrev pub invariant-loop-message : goal.invariant-loop-message
invariant-loop-message l = l.out.items ++ all_targets l.draft l.methods l.rest ≡ l.initial.out.items ++ all_targets l.draft l.methods l.messages

abbrev pub decreases-loop-message : goal.decreases-loop-message
decreases-loop-message l = length l.rest
