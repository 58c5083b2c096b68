use Rattle.std.proofs.Common.{ℕ, List, sym, subst}
use Rattle.osc_replay.specs.Disagreeing.{IsRecordingOf}
use Rattle.osc_replay.proofs.Replayed.{one_printed}
use Rattle.osc_replay.proofs.onward.Replay.into_text.Goals as goal

pub returns : goal.returns
returns c caps history is =
    let own = c.self.invariant in
    one_printed c.a_legal_history_is_recordable.ensures.all c.a_legal_history_is_recordable.ensures.within c.self.inside.played.recording.now
    c.self.inside.played.text c.self.inside.caps caps own.history history own.recording_of own.text_is
    (subst (λ (b : List ℕ). IsRecordingOf b caps history) (sym c.self.view_is) is)
