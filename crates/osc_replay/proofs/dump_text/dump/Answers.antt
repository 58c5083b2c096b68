use Rattle.std.proofs.Common.{◌≡◌, Err, inl, rules}
use Rattle.osc_print.specs.Dumps.{limits_text}
use Rattle.osc_record.specs.Left.{placed_of}
use Rattle.osc_record.specs.Unread.{Reads}
use Rattle.osc_replay.specs.declared.row.Row.{Row}
use Rattle.osc_replay.specs.declared.dump_text.DumpFault.TheVariants.{Malformed}
use Rattle.osc_replay.proofs.Formed.{of_some, of_none, row_lawful, formed_all, no_place}
use Rattle.osc_replay.proofs.Listed.{listed_none, listed_more, not_listed, one_dump}
use Rattle.osc_replay.proofs.dump_text.dump.Goals as goal

pub returns-in_err-unread-clause-complete : goal.returns-in_err-unread-clause-complete
returns-in_err-unread-clause-complete c =
    let at = c.in_err-unread.field-0.0.at in
    let same : c.from_residual.result ≡ Err (Malformed at) = search rules in
    λ caps entries formed text. rw same (no_place c.args.recording.now at caps entries formed text (inl c.in_err-unread.ensures.err))

pub loop-text-init : goal.loop-text-init
loop-text-init c =
    let unread = c.in_ok-unread.unread in
    let text : c.header_line.new.text ≡ limits_text unread.caps = search rules in
    record { listed = rw text (listed_none c.args.recording.now unread c.in_ok-unread.ensures.ok) }

pub returns-in_err-row-clause-malformed : goal.returns-in_err-row-clause-malformed
returns-in_err-row-clause-malformed c =
    let at = c.in_err-row.field-0.0.at in
    let same : c.from_residual-in_err-row.result ≡ Err (Malformed at) = search rules in
    rw same (not_listed c.args.recording.now c.loop-text.unread c.loop-text.text at c.loop-text.invariant.listed c.in_err-row.ensures.err)

pub returns-in_err-row-clause-complete : goal.returns-in_err-row-clause-complete
returns-in_err-row-clause-complete c =
    let at = c.in_err-row.field-0.0.at in
    let same : c.from_residual-in_err-row.result ≡ Err (Malformed at) = search rules in
    λ caps entries formed text. rw same (no_place c.args.recording.now at caps entries formed text
    (not_listed c.args.recording.now c.loop-text.unread c.loop-text.text at c.loop-text.invariant.listed c.in_err-row.ensures.err))

pub loop-text-preserved : goal.loop-text-preserved
loop-text-preserved c =
    let row = c.in-Some.row in
    let reads = of_some (λ (row : Row). Reads c.loop-text.unread (placed_of row.entry) c.next_row.new.unread) c.in_ok-row.field-0 c.in-Some.row c.in-Some.is
    c.in_ok-row.ensures.read in
    record {
      listed = listed_more c.args.recording.now c.loop-text.unread c.next_row.new.unread (placed_of row.entry) c.loop-text.text c.dump_line.new.text
          c.loop-text.invariant.listed reads (row_lawful row) c.in_ok-dump_line.ensures.ok;
    }

pub returns-clause-complete : goal.returns-clause-complete
returns-clause-complete c = λ caps entries formed text.
    (let is = c.loop-text.invariant.listed in
    one_dump c.args.recording.now c.loop-text.text is.caps caps is.before entries is.formed.formed
    (formed_all c.args.recording.now is.caps is.before c.loop-text.unread is.formed
    (of_none c.in_ok-row.field-0 c.in_default.not-Some c.in_ok-row.ensures.end)) is.text_is formed text)
