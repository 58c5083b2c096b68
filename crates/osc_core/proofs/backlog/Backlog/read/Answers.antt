use Rattle.osc_core.proofs.Waits.{first_stored}
use Rattle.osc_core.proofs.backlog.Backlog.read.Goals as goal

pub read-requires-clause-stored : goal.read-requires-clause-stored
read-requires-clause-stored c =
    let w = c.args.self.now in
    first_stored w.store w.queue.items c.in-Some.field-0-0 c.in-Some.field-0-1 c.in-Some.stored.now c.in-Some.ensures.head c.requires.waiting.kept
