use Rattle.std.proofs.Common.{◌≡◌, ◌++◌}
use Rattle.osc_drawing.specs.Marks.{all_targets}
use Rattle.osc_drawing.proofs.target.add_handed.Given as goal

abbrev pub invariant-loop-message : goal.invariant-loop-message
invariant-loop-message l = record {
  can : (goal.iterator-loop-message).can_next l.message-iterator;
  finite : (goal.iterator-loop-message).is_finite l.message-iterator;
  said : l.out.items ++ all_targets l.draft l.methods l.message-iterator ≡ l.initial.out.items ++ all_targets l.draft l.methods l.fn.messages;
}
