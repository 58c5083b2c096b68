use Rattle.std.proofs.Common.{ℕ, ◌∙◌, arith}
use Rattle.std.proofs.lemmas.List.{length-drop}
use Rattle.osc_model.specs.Events.{Hit}
use Rattle.osc_core.specs.Calls.{invocation_by}
use Rattle.osc_core.proofs.Hearing.{call_made, calls_all_made}
use Rattle.osc_core.proofs.Recorded.{owes, hit_put, hits_all_put, owed_put}
use Rattle.osc_core.proofs.calls.invoke_ids.Goals as goal

pub put_hit-requires : goal.put_hit-requires
put_hit-requires g c =
    record { owed = owes c.loop-id.recorder (omega (arith, c.loop-id-test.true, length-drop c.loop-id.id-index c.args.ids.now, c.loop-id.invariant.owed)) }

pub invoke_one-requires : goal.invoke_one-requires
invoke_one-requires g c = rw c.loop-id.invariant.ids c.requires.ascending

pub loop-id-preserved : goal.loop-id-preserved
loop-id-preserved g c =
    let ids = c.args.ids.now in
    let i = c.loop-id.id-index in
    let hit_of : ℕ → Hit = λ id. record { index = c.args.call.now.index; id = id } in
    record {
      recorder = hit_put c.loop-id.recorder c.put_hit.new.self hit_of ids i c.loop-id-test.true c.put_hit.ensures ∙ c.loop-id.invariant.recorder;
      owed = owed_put c.loop-id.recorder c.put_hit.new.self _ ids i c.loop-id-test.true c.put_hit.ensures c.loop-id.invariant.owed;
      boxes = λ methods. call_made (invocation_by methods c.args.call.now) ids i _ _ c.loop-id-test.true (c.invoke_one.ensures.boxes methods)
          ∙ c.loop-id.invariant.boxes methods;
      ids = c.invoke_one.ensures.ids ∙ c.loop-id.invariant.ids;
      capacity = omega (arith, c.invoke_one.ensures.capacity, c.loop-id.invariant.capacity);
    }

pub returns-clause-recorder : goal.returns-clause-recorder
returns-clause-recorder g c =
    let hit_of : ℕ → Hit = λ id. record { index = c.args.call.now.index; id = id } in
    hits_all_put c.loop-id.recorder hit_of c.args.ids.now c.loop-id.id-index c.loop-id-test.false ∙ c.loop-id.invariant.recorder

pub returns-clause-boxes : goal.returns-clause-boxes
returns-clause-boxes g c methods =
    calls_all_made (invocation_by methods c.args.call.now) c.args.ids.now c.loop-id.id-index _ c.loop-id-test.false ∙ c.loop-id.invariant.boxes methods
