use Rattle.std.proofs.Common.{◌≡◌, ◌-◌, ◌<◌, ◌==◌, cond, length, vec_capacity, refl, sym, ap, ◌∙◌, arith, drop}
use Rattle.osc_model.specs.Events.{Hit}
use Rattle.osc_record.specs.Writing.{Recording, with_hit}
use Rattle.osc_record.proofs.Kept.{some_owed}
use Rattle.osc_record.proofs.Releases.{HitKeeps, hit_keeps}
use Rattle.osc_record.proofs.recorder.Recorder.put_hit.Goals as goal

done : (c : goal.After-self-2-1)
    → HitKeeps c.self.inside.caps c.self.inside.bytes.items c.self.inside.start c.self.inside.caller c.self.inside.unit c.self.inside.owed
    (record { index = c.args.index; id = c.args.id }) c.append_hit.new.out.items c.settled_start-self-inside.result (c.self.inside.owed - 1)
    (vec_capacity c.append_hit.new.out)
done c =
    let f = c.self.inside in
    let hit : Hit = record { index = c.args.index; id = c.args.id } in
    let some : 0 < f.owed = some_owed f.caller f.unit f.owed (drop f.start f.bytes.items)
    (λ none. c.requires.owed (sym (ap (λ (r : Recording). r.begun) c.self.view_is) ∙ none)) in
    let size : c.len.result ≡ length c.append_hit.new.out.items = omega arith in
    hit_keeps f.caps f.bytes.items f.start f.caller f.unit f.owed (vec_capacity f.bytes) hit c.append_hit.new.out.items c.settled_start-self-inside.result
    (f.owed - 1) (vec_capacity c.append_hit.new.out)
    c.self.invariant some (record { index_fits = omega arith; id_fits = omega arith }) c.append_hit.ensures.out refl
    (c.settled_start-self-inside.ensures ∙ ap (λ n. cond (f.owed - 1 == 0) n f.start) size) c.append_hit.ensures.capacity

pub invariant_of-self : goal.invariant_of-self
invariant_of-self c = (done c).kept

pub returns : goal.returns
returns c = (done c).view ∙ ap (λ r. with_hit r (record { index = c.args.index; id = c.args.id })) c.self.view_is
