use Rattle.std.proofs.Common.{vec_capacity, sym, ap, ◌∙◌}
use Rattle.osc_record.specs.Writing.{recording_text}
use Rattle.osc_record.proofs.Kept.{text_is}
use Rattle.osc_record.proofs.recorder.Recorder.bytes.Goals as goal

pub returns : goal.returns
returns c =
    let f = c.self.inside in
    c.as_slice.ensures.value ∙ sym (text_is f.caps f.bytes.items f.start f.caller f.unit f.owed (vec_capacity f.bytes) c.self.invariant)
    ∙ ap recording_text c.self.view_is
