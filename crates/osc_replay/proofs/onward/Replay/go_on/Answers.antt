use Rattle.std.proofs.Common.{ℕ, List, inl, sym, subst, ap, ◌∙◌}
use Rattle.osc_model.specs.Limits.{Limits}
use Rattle.osc_replay.specs.Onward.{GoesOnFrom}
use Rattle.osc_replay.specs.Room.{with_room}
use Rattle.osc_replay.proofs.Replayed.{none_malformed}
use Rattle.osc_replay.proofs.Extended.{extends, passing, replayed_on}
use Rattle.osc_replay.proofs.onward.Replay.go_on.Goals as goal

pub unreachable-requires : goal.unreachable-requires
unreachable-requires c =
    let law = c.a_legal_history_is_recordable.ensures in
    let own = c.self.invariant in
    let played = c.self.inside.played in
    let on = extends law.all law.within played.recording.now c.args.recording.now c.self.inside.caps own.history own.recording_of
    (subst (λ (b : List ℕ). GoesOnFrom b c.args.recording.now) (sym c.self.view_is) c.requires) in
    none_malformed law.all law.within c.args.recording.now c.in_default.field-0.at (with_room on.room c.self.inside.caps) _
    (inl c.in_default.ensures.err) on.recording_of

pub pass-requires : goal.pass-requires
pass-requires c =
    let law = c.a_legal_history_is_recordable.ensures in
    let own = c.self.invariant in
    let played = c.self.inside.played in
    let on = extends law.all law.within played.recording.now c.args.recording.now c.self.inside.caps own.history own.recording_of
    (subst (λ (b : List ℕ). GoesOnFrom b c.args.recording.now) (sym c.self.view_is) c.requires) in (
      c.args.recording.now,
      with_room on.room c.self.inside.caps,
      own.history,
      on.since,
      passing law.all law.within played.recording.now c.args.recording.now c.self.inside.caps played.server played.calls.prints played.text played.entries
          played.adds c.in-Ok.unread own on c.in-Ok.ensures.ok,
    )

pub play_rest-requires-clause-replayed : goal.play_rest-requires-clause-replayed
play_rest-requires-clause-replayed c =
    let law = c.a_legal_history_is_recordable.ensures in
    let own = c.self.invariant in
    let played = c.self.inside.played in
    let on = extends law.all law.within played.recording.now c.args.recording.now c.self.inside.caps own.history own.recording_of
    (subst (λ (b : List ℕ). GoesOnFrom b c.args.recording.now) (sym c.self.view_is) c.requires) in
    replayed_on law.within played.recording.now c.args.recording.now c.self.inside.caps played.server c.make_room.new.self played.calls.prints played.text
    played.entries played.adds c.recording.result c.pass.new.unread own on
    (c.pass.ensures c.args.recording.now (with_room on.room c.self.inside.caps) own.history on.since
    (passing law.all law.within played.recording.now c.args.recording.now c.self.inside.caps played.server played.calls.prints played.text played.entries
    played.adds c.in-Ok.unread own on c.in-Ok.ensures.ok))
    c.make_room.ensures (c.recording.ensures.value ∙ ap (λ (l : Limits). l.recording) c.caps-caps.ensures)
