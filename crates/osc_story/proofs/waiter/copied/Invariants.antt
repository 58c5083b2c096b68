use Rattle.std.proofs.Common.{◌≡◌, ◌++◌}
use Rattle.osc_story.proofs.waiter.copied.Given as goal

-- the copies so far and the messages that are left are all messages
abbrev pub invariant-loop-message : goal.invariant-loop-message
invariant-loop-message l = record {
  can : (goal.iterator-loop-message).can_next l.message-iterator;
  finite : (goal.iterator-loop-message).is_finite l.message-iterator;
  said : l.copies.items ++ l.message-iterator ≡ l.fn.messages;
}
