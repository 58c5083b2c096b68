use Rattle.std.proofs.Common.{◌≡◌, ℕ, List, map, take, ap, ◌∙◌}
use Rattle.osc_model.specs.Step.{calls_of, hits_of, invocations_of}
use Rattle.osc_model.specs.Calls.{call_by}
use Rattle.osc_core.specs.Recorded.{with_hits}
use Rattle.osc_core.proofs.Calling.{hit, invoked}
use Rattle.osc_core.proofs.Hearing.{hear_same}
use Rattle.osc_core.proofs.calls.find_and_invoke.Goals as goal

pub returns-clause-recorder : goal.returns-clause-recorder
returns-clause-recorder g c =
    let call = c.args.call.now in
    let methods = c.args.tree.now.methods in
    let count = c.count_next-count.result.0 in
    let calls : map (call_by methods call.index call.message) (take count c.ids.result.now) ≡ calls_of methods call.index call.message =
    ap (λ (l : List ℕ). map (call_by methods call.index call.message) (take count l)) c.ids.ensures ∙ c.count_next-count.ensures.calls call.index in
    c.invoke_ids.ensures.recorder ∙ ap (with_hits c.args.recorder.now) (hit methods call (take count c.ids.result.now) ∙ ap hits_of calls)

pub returns-clause-boxes : goal.returns-clause-boxes
returns-clause-boxes g c =
    let call = c.args.call.now in
    let methods = c.args.tree.now.methods in
    let count = c.count_next-count.result.0 in
    let calls : map (call_by methods call.index call.message) (take count c.ids.result.now) ≡ calls_of methods call.index call.message =
    ap (λ (l : List ℕ). map (call_by methods call.index call.message) (take count l)) c.ids.ensures ∙ c.count_next-count.ensures.calls call.index in
    hear_same _ _ _ _ (c.invoke_ids.ensures.boxes methods) (invoked methods call (take count c.ids.result.now) ∙ ap (invocations_of call.unit) calls)
