use Rattle.std.proofs.Common.{◌+◌, ◌*◌, ◌≤◌, List, length, refl, sym, ap, subst, ◌∙◌, arith}
use Rattle.std.specs.List.{AllByRecursion}
use Rattle.osc_record.specs.Left.{entries_left}
use Rattle.osc_record.specs.Reading.{Placed, unplaced}
use Rattle.osc_replay.specs.Upgrading.{submits_in}
use Rattle.osc_replay.proofs.Upgraded.{Recordable, all_today, prints_the_same, disagrees_at, few_in, needs, text_is, made}
use Rattle.osc_replay.proofs.upgrade_text.upgrade.Goals as goal

pub returns-in_err-old-clause-complete : goal.returns-in_err-old-clause-complete
returns-in_err-old-clause-complete c = λ caps history is. absurd (c.in_err-old.ensures.complete caps history is)

pub count_submits-requires : goal.count_submits-requires
count_submits-requires c =
    let old = c.in_ok-old.old in
    subst (λ (placed : List Placed). submits_in (unplaced placed) ≤ 1073741824) (sym c.entries.ensures)
    (few_in c.args.recording.now old.caps (unplaced old.entries) c.in_ok-old.ensures.ok)

pub overflow_mul-growth : goal.overflow_mul-growth
overflow_mul-growth c =
    let old = c.in_ok-old.old in
    let few = few_in c.args.recording.now old.caps (unplaced old.entries) c.in_ok-old.ensures.ok in
    let count_is = c.count_submits.ensures ∙ ap (λ (placed : List Placed). submits_in (unplaced placed)) c.entries.ensures in
    omega (arith, few, count_is)

pub overflow_add-growth : goal.overflow_add-growth
overflow_add-growth c =
    let old = c.in_ok-old.old in
    let few = few_in c.args.recording.now old.caps (unplaced old.entries) c.in_ok-old.ensures.ok in
    let count_is = c.count_submits.ensures ∙ ap (λ (placed : List Placed). submits_in (unplaced placed)) c.entries.ensures in
    omega (arith, few, count_is)

pub overflow_add-need : goal.overflow_add-need
overflow_add-need c =
    let old = c.in_ok-old.old in
    let few = few_in c.args.recording.now old.caps (unplaced old.entries) c.in_ok-old.ensures.ok in
    let count_is = c.count_submits.ensures ∙ ap (λ (placed : List Placed). submits_in (unplaced placed)) c.entries.ensures in
    omega (arith, c.requires.small, few, count_is)

pub returns-then-need-limit-clause-complete : goal.returns-then-need-limit-clause-complete
returns-then-need-limit-clause-complete c = λ caps history is.
    (let both = c.in_ok-old.ensures.complete caps history is in
    let count_is = c.count_submits.ensures ∙ ap (λ (placed : List Placed). submits_in (unplaced placed)) c.entries.ensures ∙ ap submits_in both.1 in
    (omega (arith, count_is, needs c.args.limit c.args.recording.now caps history is), refl, omega (arith, c.if-need-limit.true)))

pub returns-then-need-limit-clause-too_large : goal.returns-then-need-limit-clause-too_large
returns-then-need-limit-clause-too_large c =
    let old = c.in_ok-old.old in
    let is = c.in_ok-old.ensures.ok in
    let count_is = c.count_submits.ensures ∙ ap (λ (placed : List Placed). submits_in (unplaced placed)) c.entries.ensures in (
      old.caps,
      unplaced old.entries,
      is,
      omega (arith, count_is, needs c.args.limit c.args.recording.now old.caps (unplaced old.entries) is),
      refl,
      omega (arith, c.if-need-limit.true),
    )

pub written-requires-clause-recordable : goal.written-requires-clause-recordable
written-requires-clause-recordable c =
    let old = c.in_ok-old.old in
    subst (λ (placed : List Placed). AllByRecursion Recordable (unplaced placed)) (sym c.entries-2.ensures)
    (all_today (unplaced old.entries) c.in_ok-old.ensures.ok.formed.record_.all)

pub written-requires-clause-size : goal.written-requires-clause-size
written-requires-clause-size c =
    let old = c.in_ok-old.old in
    let count_is = c.count_submits.ensures ∙ ap (λ (placed : List Placed). submits_in (unplaced placed)) c.entries.ensures in
    let text = text_is c.args.limit (4 + 4 * c.count_submits.result) old.caps c.upgraded_caps-caps.result old.entries (entries_left c.entries-2.result)
    c.upgraded_caps-caps.ensures (omega (arith, count_is)) c.entries-2.ensures in
    omega (arith, count_is, needs c.args.limit c.args.recording.now old.caps (unplaced old.entries) c.in_ok-old.ensures.ok, ap length text)

pub returns-clause-complete : goal.returns-clause-complete
returns-clause-complete c = λ caps history is.
    (let old = c.in_ok-old.old in
    let count_is = c.count_submits.ensures ∙ ap (λ (placed : List Placed). submits_in (unplaced placed)) c.entries.ensures in
    made c.args.limit c.count_submits.result c.args.recording.now c.in_ok-bytes.bytes old.caps caps c.upgraded_caps-caps.result old.entries
    (entries_left c.entries-2.result) history is (c.in_ok-old.ensures.complete caps history is) c.upgraded_caps-caps.ensures count_is c.entries-2.ensures
    c.in_ok-bytes.ensures (omega (arith, c.if-need-limit.false)) c.requires.least c.requires.most)

pub returns-clause-legal : goal.returns-clause-legal
returns-clause-legal c = λ caps history is legal.
    (let old = c.in_ok-old.old in
    let count_is = c.count_submits.ensures ∙ ap (λ (placed : List Placed). submits_in (unplaced placed)) c.entries.ensures in
    let all = made c.args.limit c.count_submits.result c.args.recording.now c.in_ok-bytes.bytes old.caps caps c.upgraded_caps-caps.result old.entries
    (entries_left c.entries-2.result) history is (c.in_ok-old.ensures.complete caps history is) c.upgraded_caps-caps.ensures count_is c.entries-2.ensures
    c.in_ok-bytes.ensures (omega (arith, c.if-need-limit.false)) c.requires.least c.requires.most in
    prints_the_same c.args.limit caps history c.in_ok-bytes.bytes is.formed legal all.2 all.0)

pub returns-clause-illegal : goal.returns-clause-illegal
returns-clause-illegal c = λ caps history is before entry later same legal never.
    (let old = c.in_ok-old.old in
    let count_is = c.count_submits.ensures ∙ ap (λ (placed : List Placed). submits_in (unplaced placed)) c.entries.ensures in
    let all = made c.args.limit c.count_submits.result c.args.recording.now c.in_ok-bytes.bytes old.caps caps c.upgraded_caps-caps.result old.entries
    (entries_left c.entries-2.result) history is (c.in_ok-old.ensures.complete caps history is) c.upgraded_caps-caps.ensures count_is c.entries-2.ensures
    c.in_ok-bytes.ensures (omega (arith, c.if-need-limit.false)) c.requires.least c.requires.most in
    disagrees_at c.a_legal_history_is_recordable.ensures.next c.args.limit caps history c.in_ok-bytes.bytes is.formed all.2 all.0 before entry later same
    legal never)
