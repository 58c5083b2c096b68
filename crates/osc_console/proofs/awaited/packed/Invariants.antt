use Rattle.std.proofs.Common.{◌≡◌, ◌++◌}
use Rattle.osc_console.proofs.awaited.packed.Given as goal

-- the messages so far, and those that are left, are those of the unit
abbrev pub invariant-loop-message : goal.invariant-loop-message
invariant-loop-message l = record {
  can : (goal.iterator-loop-message).can_next l.message-iterator;
  finite : (goal.iterator-loop-message).is_finite l.message-iterator;
  tag : l.bundle.tag ≡ l.unit.tag;
  all : l.bundle.messages ++ l.message-iterator ≡ l.unit.messages;
}
