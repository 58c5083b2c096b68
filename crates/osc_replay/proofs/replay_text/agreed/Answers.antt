use Rattle.std.proofs.Common.{◌≡◌, Bool, true, false, refl, ap}
use Rattle.osc_model.specs.Events.{Entry}
use Rattle.osc_record.specs.Shown.{answer_of}
use Rattle.osc_record.specs.Left.{placed_of}
use Rattle.osc_replay.proofs.replay_text.agreed.Goals as goal

clash : (b : Bool) → b ≡ false → b ≡ true → ⊥
clash b is_false is_true = absurd (cc)

pub returns-then-not-agree-clause-differs : goal.returns-then-not-agree-clause-differs
returns-then-not-agree-clause-differs c =
    let kept = (placed_of c.args.entry.now).entry in
    let computed : Entry = record kept { answer = answer_of c.args.answer } in (
      refl,
      c.in_ok-entry_bytes.ensures,
      c.in_ok-entry_bytes-2.ensures,
      λ same. clash c.agree.result c.if-not-agree.true
          (c.agree.ensures.1
          (ap (λ (e : Entry). e.answer) (c.entries_have_their_own_texts.ensures.same kept computed c.requires.kept c.requires.computed same))),
    )
