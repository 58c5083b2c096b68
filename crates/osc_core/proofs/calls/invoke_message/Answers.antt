use Rattle.std.proofs.Common.{◌≡◌, length, map, sym, ap, ◌∙◌, arith}
use Rattle.std.proofs.lemmas.Bool.{eqb-false, eqb-true}
use Rattle.std.proofs.lemmas.List.{length-map}
use Rattle.osc_model.specs.Calls.{call_by}
use Rattle.osc_model.specs.Step.{calls_of, hits_of, invocations_of}
use Rattle.osc_core.specs.Found.{first_found}
use Rattle.osc_core.specs.Recorded.{with_hits}
use Rattle.osc_core.proofs.Calling.{hit, invoked}
use Rattle.osc_core.proofs.Hearing.{hear_same}
use Rattle.osc_core.proofs.Keeping.{counts_first, calls_first, none_after}
use Rattle.osc_core.proofs.calls.invoke_message.Goals as goal

pub returns-then-is_empty-clause-rest : goal.returns-then-is_empty-clause-rest
returns-then-is_empty-clause-rest g c =
    none_after c.args.left.kept.now (eqb-true (length c.args.left.kept.now) 0 (sym c.is_empty.ensures ∙ c.if-is_empty.true))

pub split_found-requires : goal.split_found-requires
split_found-requires g c =
    counts_first c.args.tree.now.methods c.args.call.now.message c.args.left.kept.now c.requires.found
    (eqb-false (length c.args.left.kept.now) 0 (sym c.is_empty.ensures ∙ c.if-is_empty.false))

pub invoke_ids-requires-clause-owed : goal.invoke_ids-requires-clause-owed
invoke_ids-requires-clause-owed g c =
    let call = c.args.call.now in
    let methods = c.args.tree.now.methods in
    let some = eqb-false (length c.args.left.kept.now) 0 (sym c.is_empty.ensures ∙ c.if-is_empty.false) in
    let calls = calls_first methods call.message c.args.left.kept.now call.index c.requires.found some in
    omega (
      arith,
      c.requires.owed,
      ap length calls,
      length-map (first_found c.args.left.kept.now) (call_by methods call.index call.message),
      ap length c.split_found.ensures.ids,
    )

pub returns-clause-recorder : goal.returns-clause-recorder
returns-clause-recorder g c =
    let call = c.args.call.now in
    let methods = c.args.tree.now.methods in
    let ids = c.split_found.result.0.now in
    let some = eqb-false (length c.args.left.kept.now) 0 (sym c.is_empty.ensures ∙ c.if-is_empty.false) in
    let calls : map (call_by methods call.index call.message) ids ≡ calls_of methods call.index call.message =
    ap (map (call_by methods call.index call.message)) c.split_found.ensures.ids
    ∙ calls_first methods call.message c.args.left.kept.now call.index c.requires.found some in
    c.invoke_ids.ensures.recorder ∙ ap (with_hits c.args.recorder.now) (hit methods call ids ∙ ap hits_of calls)

pub returns-clause-boxes : goal.returns-clause-boxes
returns-clause-boxes g c =
    let call = c.args.call.now in
    let methods = c.args.tree.now.methods in
    let ids = c.split_found.result.0.now in
    let some = eqb-false (length c.args.left.kept.now) 0 (sym c.is_empty.ensures ∙ c.if-is_empty.false) in
    let calls : map (call_by methods call.index call.message) ids ≡ calls_of methods call.index call.message =
    ap (map (call_by methods call.index call.message)) c.split_found.ensures.ids
    ∙ calls_first methods call.message c.args.left.kept.now call.index c.requires.found some in
    hear_same _ _ _ _ (c.invoke_ids.ensures.boxes methods) (invoked methods call ids ∙ ap (invocations_of call.unit) calls)
