use Rattle.std.proofs.Common.{◌≡◌, ℕ, ◌+◌, ◌*◌, ◌≤◌, ◌++◌, true, List, length}
use Rattle.osc_model.specs.Step.{calls_from}
use Rattle.osc_core.specs.Found.{AreFound}
use Rattle.osc_core.proofs.calls.count_each.Given as goal

-- the calls so far and those of the messages that are left are as many as all, and what is kept of the others may stand after what is kept so far
abbrev pub invariant-loop-message : goal.invariant-loop-message
invariant-loop-message l = record {
  can : (goal.iterator-loop-message).can_next l.message-iterator;
  finite : (goal.iterator-loop-message).is_finite l.message-iterator;
  counted : l.count + length (calls_from l.tree.methods 0 l.message-iterator) ≡ length (calls_from l.tree.methods 0 l.fn.messages);
  small : l.count + 65536 * length l.message-iterator ≤ 65536 * length l.fn.messages;
  found : AreFound l.tree.methods l.fn.messages l.kept.items;
  further : l.is_whole ≡ true → (more : List ℕ) → AreFound l.tree.methods l.message-iterator more
      → AreFound l.tree.methods l.fn.messages (l.kept.items ++ more);
  limit : l.hits.limit ≡ l.initial.hits.limit;
}
