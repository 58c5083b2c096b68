use Rattle.std.proofs.Common.{◌≡◌, ◌+◌, ◌≤◌, None, length, vec_capacity, sym, ap, ◌∙◌, arith}
use Rattle.osc_model.specs.Events.{Entry as Recorded}
use Rattle.osc_model.specs.Recordings.{entry_text}
use Rattle.osc_record.specs.Shown.{event_of, answer_of}
use Rattle.osc_record.specs.Writing.{Recording, recording_of, recording_text, appended}
use Rattle.osc_record.proofs.Kept.{Put, put_keeps, text_is}
use Rattle.osc_record.proofs.recorder.Recorder.put.Goals as goal

done : (c : goal.After-self-1)
    → Put c.self.inside.caps c.self.inside.bytes.items c.self.inside.start c.self.inside.caller c.self.inside.unit c.self.inside.owed
    (vec_capacity c.self.inside.bytes) (record { caller = c.args.caller; event = event_of c.args.event; answer = answer_of c.args.answer })
    c.append_entry.new.out.items c.len.result (vec_capacity c.append_entry.new.out)
done c =
    let f = c.self.inside in
    let entry : Recorded = record { caller = c.args.caller; event = event_of c.args.event; answer = answer_of c.args.answer } in
    let text : length f.bytes.items ≡ length (recording_text c.args.self.now) =
    sym (ap length (text_is f.caps f.bytes.items f.start f.caller f.unit f.owed (vec_capacity f.bytes) c.self.invariant))
    ∙ ap (λ r. length (recording_text r)) c.self.view_is in
    let limit : f.caps.recording ≡ c.args.self.now.caps.recording = ap (λ (r : Recording). r.caps.recording) c.self.view_is in
    let fits : length f.bytes.items + length (entry_text c.args.caller (event_of c.args.event) (answer_of c.args.answer)) ≤ f.caps.recording =
    omega (arith, c.requires.fits) in
    let none : (recording_of f.caps f.bytes.items f.start f.caller f.unit f.owed).begun ≡ None =
    ap (λ (r : Recording). r.begun) c.self.view_is ∙ c.requires.none_owed in
    put_keeps f.caps f.bytes.items f.start f.caller f.unit f.owed (vec_capacity f.bytes) entry c.append_entry.new.out.items c.len.result
    (vec_capacity c.append_entry.new.out)
    c.self.invariant none c.requires.lawful fits c.append_entry.ensures.out (omega arith) c.append_entry.ensures.capacity

pub invariant_of-self : goal.invariant_of-self
invariant_of-self c = (done c).kept

pub returns : goal.returns
returns c = (done c).view
    ∙ ap (λ r. appended r (record { caller = c.args.caller; event = event_of c.args.event; answer = answer_of c.args.answer })) c.self.view_is
