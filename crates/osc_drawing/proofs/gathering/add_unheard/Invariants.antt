use Rattle.std.proofs.Common.{◌≡◌, ◌+◌, ◌++◌, length}
use Rattle.osc_drawing.specs.Marks.{unheard_marks}
use Rattle.osc_drawing.proofs.gathering.add_unheard.Given as goal

abbrev pub invariant-loop-message : goal.invariant-loop-message
invariant-loop-message l = record {
  said : l.out.items ++ unheard_marks l.draft l.calls l.index l.rest ≡ l.initial.out.items ++ unheard_marks l.draft l.calls 0 l.messages;
  few : l.index + length l.rest ≡ length l.messages;
}

abbrev pub decreases-loop-message : goal.decreases-loop-message
decreases-loop-message l = length l.rest
