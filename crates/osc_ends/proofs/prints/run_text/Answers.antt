use Rattle.std.proofs.Common.{◌≤◌, List, ℕ, length, ap, arith}
use Rattle.osc_model.specs.Recordings.{record_text}
use Rattle.osc_ends.proofs.prints.run_text.Goals as goal

pub replay-requires : goal.replay-requires
replay-requires c =
    let caps = c.requires.0 in
    let history = c.requires.1 in
    let recording = c.requires.2 in
    let few : length (record_text caps history) ≤ caps.recording = c.a_legal_history_is_recordable.ensures.within caps history recording.legal in
    omega (arith, few, recording.legal.0.recording, ap (λ (l : List ℕ). length l) recording.text)
