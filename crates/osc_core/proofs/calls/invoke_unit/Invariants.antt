use Rattle.std.proofs.Common.{◌≡◌, ◌+◌, ◌≤◌, length, map, vec_capacity}
use Rattle.osc_model.specs.Heard.{all_hear}
use Rattle.osc_model.specs.Step.{calls_from, hits_of, invocations_of}
use Rattle.osc_core.specs.Found.{AreFound, StandFor}
use Rattle.osc_core.specs.Telling.{told}
use Rattle.osc_core.specs.Recorded.{owed_by, with_hits}
use Rattle.osc_core.proofs.calls.invoke_unit.Given as goal

-- what the messages that are left do now is what all of them did at first
abbrev pub invariant-loop-message : goal.invariant-loop-message
invariant-loop-message g l = record {
  can : (goal.iterator-loop-message g).can_next l.message-iterator;
  finite : (goal.iterator-loop-message g).is_finite l.message-iterator;
  recorder : with_hits l.recorder (hits_of (calls_from l.tree.methods l.index l.message-iterator))
      ≡ with_hits l.initial.recorder (hits_of (calls_from l.tree.methods 0 l.fn.due.messages));
  found : AreFound l.tree.methods l.message-iterator l.left.kept.now;
  stand : StandFor l.tree l.left.last.now l.hits.ids;
  owed : owed_by l.recorder ≡ length (calls_from l.tree.methods l.index l.message-iterator);
  boxes : all_hear (invocations_of l.unit (calls_from l.tree.methods l.index l.message-iterator)) (told g.M.Method.keep g.M.Method.heard l.boxes.items)
      ≡ all_hear (invocations_of l.unit (calls_from l.tree.methods 0 l.fn.due.messages)) (told g.M.Method.keep g.M.Method.heard l.initial.boxes.items);
  ids : map (λ one. one.0) l.boxes.items ≡ map (λ one. one.0) l.initial.boxes.items;
  capacity : vec_capacity l.initial.boxes ≤ vec_capacity l.boxes;
  numbers : l.index + length l.message-iterator ≡ length l.fn.due.messages;
  limit : l.hits.limit ≡ l.initial.hits.limit;
}
