use Rattle.std.proofs.Common.{◌≡◌, Err, inl, ap, ◌∙◌, rules}
use Rattle.osc_model.specs.State.{opening}
use Rattle.osc_replay.specs.declared.fault.ReplayFault.TheVariants.{Malformed}
use Rattle.osc_replay.proofs.Replayed.{none_malformed}
use Rattle.osc_replay.proofs.Further.{replayed_none}
use Rattle.osc_replay.proofs.onward.Replay.open.Goals as goal

pub returns-in_err-unread-clause-complete : goal.returns-in_err-unread-clause-complete
returns-in_err-unread-clause-complete c =
    let at = c.in_err-unread.field-0.0.at in
    let same : c.from_residual.result ≡ Err (Malformed at) = search rules in
    λ caps history is.
    rw same (none_malformed c.a_legal_history_is_recordable.ensures.all c.a_legal_history_is_recordable.ensures.within c.args.recording.now at caps history
    (inl c.in_err-unread.ensures.err) is)

pub play_rest-requires-clause-replayed : goal.play_rest-requires-clause-replayed
play_rest-requires-clause-replayed c =
    let unread = c.in_ok-unread.unread in
    let made = c.in_ok-played.ensures in
    let opened : c.in_ok-played.played.server ≡ opening unread.caps = made.server ∙ ap opening c.caps-caps.ensures in
    rw (made.recording, opened, made.text, made.counts.0, made.counts.1)
    (replayed_none c.args.recording.now unread c.in_ok-unread.ensures.ok c.requires)
