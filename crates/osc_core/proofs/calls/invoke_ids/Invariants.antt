use Rattle.std.proofs.Common.{◌≡◌, ◌≤◌, List, length, map, drop, vec_capacity}
use Rattle.osc_pattern.specs.Methods.{Method}
use Rattle.osc_model.specs.Heard.{all_hear}
use Rattle.osc_core.specs.Calls.{invocation_by}
use Rattle.osc_core.specs.Telling.{told}
use Rattle.osc_core.specs.Recorded.{owed_by, with_hits}
use Rattle.osc_core.proofs.calls.invoke_ids.Given as goal

-- what the ids that are left do now is what all of them did at first
abbrev pub invariant-loop-id : goal.invariant-loop-id
invariant-loop-id g l = record {
  recorder : with_hits l.recorder (map (λ id. record { index = l.call.index; id = id }) (drop l.id-index l.ids))
      ≡ with_hits l.initial.recorder (map (λ id. record { index = l.call.index; id = id }) l.ids);
  owed : length (drop l.id-index l.ids) ≤ owed_by l.recorder;
  boxes : (methods : List Method) → all_hear (map (invocation_by methods l.call) (drop l.id-index l.ids)) (told g.M.Method.keep g.M.Method.heard l.boxes.items)
      ≡ all_hear (map (invocation_by methods l.call) l.ids) (told g.M.Method.keep g.M.Method.heard l.initial.boxes.items);
  ids : map (λ one. one.0) l.boxes.items ≡ map (λ one. one.0) l.initial.boxes.items;
  capacity : vec_capacity l.initial.boxes ≤ vec_capacity l.boxes;
}
