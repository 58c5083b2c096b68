use Rattle.std.proofs.Common.{sym, subst, ◌∙◌}
use Rattle.osc_core.specs.Views.{FirstIsDue}
use Rattle.osc_core.proofs.Waits.{none_is, not_none_due, queued_is}
use Rattle.osc_core.proofs.backlog.Backlog.take.Goals as goal

pub take_first-requires-clause-due : goal.take_first-requires-clause-due
take_first-requires-clause-due c =
    let w = c.args.self.now in
    let none = none_is w.lone (sym c.is_some.ensures ∙ c.if-is_some.false) in
    not_none_due c.args.now w.store w.queue.items
    (subst (FirstIsDue c.args.now) (queued_is w.lone w.bytes.items w.store w.queue.items none) c.requires.due)
