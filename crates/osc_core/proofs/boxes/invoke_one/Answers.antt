use Rattle.std.proofs.Common.{◌∙◌, arith}
use Rattle.std.proofs.lemmas.List.{length-map}
use Rattle.osc_core.specs.Calls.{invocation_by}
use Rattle.osc_core.proofs.Hearing.{hear_by, key_there, one_hears_of, none_hears_of, keys_stay}
use Rattle.osc_core.proofs.boxes.invoke_one.Goals as goal

pub returns-in-Some-clause-ids : goal.returns-in-Some-clause-ids
returns-in-Some-clause-ids g c =
    let at = rw c.deref.ensures.value at c.in-Some.ensures in
    keys_stay (λ one. one.0) c.args.boxes.now.items c.in-Some.place c.index_mut.result.now c.invoke.new.boxed at.0 c.index_mut.ensures.value c.invoke.ensures.id

pub returns-in-Some-clause-boxes : goal.returns-in-Some-clause-boxes
returns-in-Some-clause-boxes g c methods =
    let at = rw c.deref.ensures.value at c.in-Some.ensures in
    let same = key_there (λ one. one.0) c.args.boxes.now.items c.in-Some.place c.index_mut.result.now c.args.id at.0 c.index_mut.ensures.value at.1 in
    one_hears_of _ c.args.boxes.now.items c.in-Some.place c.index_mut.result.now c.invoke.new.boxed (invocation_by methods c.args.call.now c.args.id) c.requires
    (omega (arith, length-map c.args.boxes.now.items (λ one. one.0), at.0)) at.1 c.index_mut.ensures.value
    (c.invoke.ensures.told methods ∙ hear_by _ methods c.args.call.now _ _ same)

pub returns-in_default-clause-boxes : goal.returns-in_default-clause-boxes
returns-in_default-clause-boxes g c methods =
    none_hears_of _ c.args.boxes.now.items (invocation_by methods c.args.call.now c.args.id) (rw c.deref.ensures.value at c.in_default.ensures)
