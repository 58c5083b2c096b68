use Rattle.std.proofs.Common.{◌≡◌, ◌+◌, ◌≤◌, ◌++◌, length}
use Rattle.osc_model.specs.Step.{calls_from}
use Rattle.osc_replay.specs.Calls.{hits_bytes, call_lines}
use Rattle.osc_replay.proofs.calls.find_calls.Given as goal

-- what is told so far and the calls of the messages that are left are the calls of all
abbrev pub invariant-loop-message : goal.invariant-loop-message
invariant-loop-message l = record {
  can : (goal.iterator-loop-message).can_next l.message-iterator;
  finite : (goal.iterator-loop-message).is_finite l.message-iterator;
  few : l.index + length l.message-iterator ≤ 16377;
  hits : l.calls.hits.items ++ hits_bytes (calls_from l.tree.methods l.index l.message-iterator) ≡ hits_bytes (calls_from l.tree.methods 0 l.unit.messages);
  lines : l.calls.lines ++ call_lines l.fn.calls.prints l.number (calls_from l.tree.methods l.index l.message-iterator)
      ≡ call_lines l.fn.calls.prints l.number (calls_from l.tree.methods 0 l.unit.messages);
  prints : l.calls.prints ≡ l.fn.calls.prints;
  limit : l.hits.limit ≡ l.initial.hits.limit;
}
