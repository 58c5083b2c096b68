use Rattle.std.proofs.Common.{Some, List, sym, subst}
use Rattle.osc_model.specs.Releases.{IsLeastDue}
use Rattle.osc_model.specs.State.{Queued}
use Rattle.osc_core.proofs.Firsts.{least_due}
use Rattle.osc_core.proofs.Waits.{lone_least, queued_is}
use Rattle.osc_core.proofs.backlog.Backlog.first.Goals as goal

pub returns-in-Some-clause-least : goal.returns-in-Some-clause-least
returns-in-Some-clause-least c =
    let w = c.args.self.now in
    lone_least w.lone c.in-Some.lone w.bytes.items w.store w.queue.items c.in-Some.is

pub returns-in_ok-due-in-None-clause-least : goal.returns-in_ok-due-in-None-clause-least
returns-in_ok-due-in-None-clause-least c =
    let w = c.args.self.now in
    let first = c.in_ok-due-in-None in
    subst (λ (q : List Queued). IsLeastDue q (Some first.due)) (sym (queued_is w.lone w.bytes.items w.store w.queue.items c.in-None.is))
    (least_due w.store w.queue.items first.due first.unit first.field-0-2.now first.ensures.head first.ensures.least)
