use Rattle.std.proofs.Common.{vec_capacity, sym, ap, ◌∙◌, ◌++◌, append-nil}
use Rattle.osc_model.specs.Recordings.{record_text}
use Rattle.osc_record.specs.Writing.{begun_text, recording_text}
use Rattle.osc_record.proofs.Kept.{text_is}
use Rattle.osc_record.proofs.recorder.Recorder.close.Goals as goal

pub returns : goal.returns
returns c =
    let f = c.self.inside in
    let text = record_text c.args.self.caps c.args.self.entries in
    sym (text_is f.caps f.bytes.items f.start f.caller f.unit f.owed (vec_capacity f.bytes) c.self.invariant)
    ∙ ap recording_text c.self.view_is
    ∙ ap (λ b. text ++ begun_text b) c.requires.none_owed
    ∙ append-nil text
