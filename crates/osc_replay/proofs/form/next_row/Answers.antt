use Rattle.osc_record.specs.declared.event.Entry.{Entry}
use Rattle.osc_record.specs.Left.{placed_of}
use Rattle.osc_record.specs.Unread.{Reads}
use Rattle.osc_replay.proofs.Formed.{of_some, unlawful_next}
use Rattle.osc_replay.proofs.form.next_row.Goals as goal

pub returns-in-None-clause-err : goal.returns-in-None-clause-err
returns-in-None-clause-err c =
    let reads = of_some (λ (entry : Entry). Reads c.args.unread.now (placed_of entry) c.next_entry.new.self) c.in_ok-entry.field-0 c.in-Some.entry c.in-Some.is
    c.in_ok-entry.ensures.read in
    unlawful_next c.args.unread.now c.next_entry.new.self (placed_of c.in-Some.entry) reads c.in-None.ensures.none
