use Rattle.osc_core.proofs.Joins.{unit_taken}
use Rattle.osc_core.proofs.units.take_first.Goals as goal

pub returns-clause-queue : goal.returns-clause-queue
returns-clause-queue c =
    (unit_taken c.args.store.now c.give.new.self (c.in-Some.field-0-0, c.in-Some.field-0-1, c.in-Some.stored) c.args.queue.now.items
    c.take_due.new.self.items c.requires.kept c.in-Some.ensures.taken c.give.ensures.kept c.give.ensures.used).queue_is

pub returns-clause-kept : goal.returns-clause-kept
returns-clause-kept c =
    (unit_taken c.args.store.now c.give.new.self (c.in-Some.field-0-0, c.in-Some.field-0-1, c.in-Some.stored) c.args.queue.now.items
    c.take_due.new.self.items c.requires.kept c.in-Some.ensures.taken c.give.ensures.kept c.give.ensures.used).kept
