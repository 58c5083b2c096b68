use Rattle.std.proofs.Common.{◌≤◌, inl, List, ℕ, length, refl, rules, sym, subst}
use Rattle.osc_ends.specs.Recordings.{UpgradesTo, RefusesUpgrade}
use Rattle.osc_model.specs.Events.{Entry}
use Rattle.osc_model.specs.Limits.{Limits, max_recording}
use Rattle.osc_replay.specs.Old.{IsOldRecordingOf}
use Rattle.osc_replay.specs.Upgrading.{upgraded_text}
use Rattle.osc_plain.proofs.Tops.{length_ends, some_bytes}
use Rattle.osc_plain.proofs.recordings.upgrade.Goals as goal

pub returns-in-Ok : goal.returns-in-Ok
returns-in-Ok g c = record {
  end = record {
    known = search rules;
    said = search rules;
    input = search rules;
    unwritten = search rules;
    ends = search rules;
    sink = search rules;
    steady = search rules;
    ended = search rules;
    complete = λ can steady.
        let old = some_bytes _ c.in-Ok.bytes.items
        (λ recording. (caps : Limits) × (history : List Entry) × IsOldRecordingOf recording caps history
        × (length (upgraded_text max_recording caps history) ≤ max_recording)) c.in-Ok.ensures.bytes can in
        c.write_upgrade.ensures.complete old.0 old.1
        (subst (λ (b : List ℕ). IsOldRecordingOf b old.0 old.1) (sym c.deref.ensures.value) old.2) old.3;
  };
}

pub returns-in-Err : goal.returns-in-Err
returns-in-Err g c = record {
  end = record {
    known = search rules;
    said = search rules;
    input = search rules;
    unwritten = search rules;
    ends = length_ends UpgradesTo RefusesUpgrade _ _ _ (λ bytes long. inl (long, refl)) c.in-Err.ensures.refused;
    sink = search rules;
    steady = search rules;
    ended = search rules;
    complete = search rules;
  };
}
