use Rattle.std.proofs.Common.{inl, List, ℕ, refl, rules, sym, subst}
use Rattle.osc_ends.specs.Recordings.{ReplaysTo, RefusesRecording}
use Rattle.osc_model.specs.Events.{Entry}
use Rattle.osc_model.specs.Limits.{Limits}
use Rattle.osc_replay.specs.Disagreeing.{IsRecordingOf}
use Rattle.osc_plain.proofs.Tops.{length_ends, some_bytes}
use Rattle.osc_plain.proofs.recordings.replay.Goals as goal

pub returns-in-Ok : goal.returns-in-Ok
returns-in-Ok g c = record {
  end = record {
    known = search rules;
    said = search rules;
    input = search rules;
    unwritten = search rules;
    ends = search rules;
    sink = search rules;
    steady = search rules;
    ended = search rules;
    complete = λ can steady.
        let legal = some_bytes _ c.in-Ok.bytes.items
        (λ recording. (caps : Limits) × (history : List Entry) × IsRecordingOf recording caps history) c.in-Ok.ensures.bytes can in
        c.write_replay.ensures.replayed legal.0 legal.1
        (subst (λ (b : List ℕ). IsRecordingOf b legal.0 legal.1) (sym c.deref.ensures.value) legal.2);
  };
}

pub returns-in-Err : goal.returns-in-Err
returns-in-Err g c = record {
  end = record {
    known = search rules;
    said = search rules;
    input = search rules;
    unwritten = search rules;
    ends = length_ends ReplaysTo RefusesRecording _ _ _ (λ bytes long. inl (inl (long, refl))) c.in-Err.ensures.refused;
    sink = search rules;
    steady = search rules;
    ended = search rules;
    complete = search rules;
  };
}
