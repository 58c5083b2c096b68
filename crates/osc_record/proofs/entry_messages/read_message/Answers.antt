use Rattle.std.proofs.Common.{sym, ◌∙◌}
use Rattle.osc_record.proofs.Fronts.{submit_entry, release_entry}
use Rattle.osc_record.proofs.entry_messages.read_message.Goals as goal

pub returns-then-begins_submit-clause-value : goal.returns-then-begins_submit-clause-value
returns-then-begins_submit-clause-value c =
    c.read_submit.ensures.value
    ∙ sym (submit_entry c.args.version c.args.bytes.now (sym c.begins_submit.ensures.value ∙ c.if-begins_submit.true) c.requires.fours c.requires.small)

pub returns-then-begins_release-clause-value : goal.returns-then-begins_release-clause-value
returns-then-begins_release-clause-value c =
    c.read_release.ensures.value
    ∙ sym (release_entry c.args.version c.args.bytes.now (sym c.begins_release.ensures.value ∙ c.if-begins_release.true) c.requires.fours c.requires.small)
