use Rattle.std.proofs.Common.{◌≤◌, ap, subst, sym, ◌∙◌, arith}
use Rattle.std.specs.List.{flat_map}
use Rattle.osc_model.specs.Limits.{Limits}
use Rattle.osc_model.specs.Events.{Entry as Recorded}
use Rattle.osc_model.specs.Recordings.{entry_text}
use Rattle.osc_record.specs.Reading.{placed_in}
use Rattle.osc_live.proofs.Unreading.{Opened, opens, opened_rows, bytes_behind}
use Rattle.osc_live.proofs.rows.Rows.open.Goals as goal

pub unreachable-requires : goal.unreachable-requires
unreachable-requires c =
    let is = c.requires.recording in
    c.in_default.ensures.err.none is.0 (flat_map (λ (e : Recorded). entry_text e.caller e.event e.answer) is.1) is.2.lawful is.3

pub invariant_of-result : goal.invariant_of-result
invariant_of-result c =
    let is = c.requires.recording in
    let opened : Opened c.in-Ok.unread is.0 is.1 = opens c.args.recording.now c.in-Ok.unread is.0 is.1 c.in-Ok.ensures.ok is.2 is.3 in
    let below = is.2.lawful.recording.below in
    let small : c.in-Ok.unread.caps.recording ≤ 1073741824 = subst (λ (l : Limits). l.recording ≤ 1073741824) (sym opened.limits_are) below in
    opened_rows c.in-Ok.unread is.0 is.1 (bytes_behind c.args.recording.now c.in-Ok.unread c.in-Ok.ensures.ok (λ i. omega (arith, c.type_inv.recording i)))
    small
    opened

pub returns : goal.returns
returns c caps history is text =
    let opened : Opened c.in-Ok.unread caps history = opens c.args.recording.now c.in-Ok.unread caps history c.in-Ok.ensures.ok is text in
    (c.caps.ensures ∙ opened.limits_are, ap placed_in opened.read)
