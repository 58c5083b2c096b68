use Rattle.std.proofs.Common.{◌≡◌, inl, List, refl, rules, ◌∙◌}
use Rattle.osc_ends.specs.Recordings.{DumpsTo, RefusesForm}
use Rattle.osc_model.specs.Events.{Entry}
use Rattle.osc_model.specs.Limits.{Limits}
use Rattle.osc_model.specs.Recordings.{record_text}
use Rattle.osc_replay.specs.Formed.{IsFormed}
use Rattle.osc_plain.proofs.Tops.{length_ends, some_bytes}
use Rattle.osc_plain.proofs.recordings.dump.Goals as goal

pub returns-in-Ok : goal.returns-in-Ok
returns-in-Ok g c = record {
  end = record {
    known = search rules;
    said = search rules;
    input = search rules;
    unwritten = search rules;
    ends = search rules;
    sink = search rules;
    steady = search rules;
    ended = search rules;
    complete = λ can steady.
        let formed = some_bytes _ c.in-Ok.bytes.items
        (λ recording. (caps : Limits) × (entries : List Entry) × IsFormed caps entries × (recording ≡ record_text caps entries)) c.in-Ok.ensures.bytes can in
        c.write_dump.ensures.complete formed.0 formed.1 formed.2 (c.deref.ensures.value ∙ formed.3);
  };
}

pub returns-in-Err : goal.returns-in-Err
returns-in-Err g c = record {
  end = record {
    known = search rules;
    said = search rules;
    input = search rules;
    unwritten = search rules;
    ends = length_ends DumpsTo RefusesForm _ _ _ (λ bytes long. inl (long, refl)) c.in-Err.ensures.refused;
    sink = search rules;
    steady = search rules;
    ended = search rules;
    complete = search rules;
  };
}
