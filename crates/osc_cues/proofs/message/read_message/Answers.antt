use Rattle.std.proofs.Common.{sym}
use Rattle.osc_cues.proofs.Notes.{note_is}
use Rattle.osc_cues.proofs.message.read_message.Goals as goal

pub returns-clause-message : goal.returns-clause-message
returns-clause-message c =
    note_is c.args.line.now c.args.spans.now c.args.address.now c.in_ok-tags.tags.items c.new-atoms.result.items c.put_words.new.tags.items
    c.put_words.new.atoms.items c.deref.result.now c.deref-2.result.now c.in_ok-joined.field-0 c.in_ok-tags.ensures.items
    c.new-atoms.ensures.items
    c.in_default.ensures (sym c.in_default-brackets_fault.ensures) c.requires.pattern c.deref.ensures.value c.deref-2.ensures.value
    c.in_ok-joined.ensures
