use Rattle.std.proofs.Common.{ℕ, List, refl, sym, ap, subst, ◌∙◌}
use Rattle.osc_model.specs.State.{State}
use Rattle.osc_replay.specs.Disagreeing.{IsRecordingOf}
use Rattle.osc_replay.proofs.Tallying.{one_checked}
use Rattle.osc_replay.proofs.onward.Replay.checked.Goals as goal

pub returns : goal.returns
returns c caps history is =
    let own = c.self.invariant in
    one_checked c.a_legal_history_is_recordable.ensures.all c.a_legal_history_is_recordable.ensures.within c.self.inside.played.recording.now _
    c.self.inside.caps caps own.history history own.recording_of
    (record {
      caps_are = refl;
      entries_are = own.entries_are;
      adds_are = own.adds_are;
      callers_are = c.callers.ensures ∙ ap (λ (s : State). s.callers) own.state_is;
    })
    (subst (λ (b : List ℕ). IsRecordingOf b caps history) (sym c.self.view_is) is)
