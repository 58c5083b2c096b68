use Rattle.std.proofs.Common.{◌+◌, List, sym, ap, subst, ◌∙◌}
use Rattle.osc_queue.specs.Timed as timed
use Rattle.osc_model.specs.State.{Queued, AreNumbered}
use Rattle.osc_model.specs.Step.{waiting}
use Rattle.osc_model.proofs.Queues.{one_numbered}
use Rattle.osc_core.specs.Views.{units_of}
use Rattle.osc_core.proofs.Waits.{numbers_of, queued_is}
use Rattle.osc_core.proofs.backlog.Backlog.enter.Goals as goal

pub enter-requires-clause-running : goal.enter-requires-clause-running
enter-requires-clause-running c =
    let next = c.settle.new.self in
    let same = sym (queued_is next.lone next.bytes.items next.store next.queue.items c.settle.ensures.none) ∙ c.settle.ensures.units in
    record {
      kept = c.settle.ensures.waiting.kept;
      numbers = numbers_of c.args.number next.store next.queue.items (subst (AreNumbered c.args.number) (sym same) c.requires.numbered);
    }

pub returns-clause-numbered : goal.returns-clause-numbered
returns-clause-numbered c =
    let next = c.settle.new.self in
    let one = waiting c.args.clock c.args.number c.args.unit.now in
    let same = sym (queued_is next.lone next.bytes.items next.store next.queue.items c.settle.ensures.none) ∙ c.settle.ensures.units in
    let units = queued_is next.lone next.bytes.items c.enter.new.store c.enter.new.queue.items c.settle.ensures.none ∙ c.enter.ensures.queue
    ∙ ap (λ (q : List Queued). timed.enter one q) same in
    subst (AreNumbered (c.args.number + 1)) (sym units)
    (one_numbered c.args.clock c.args.number c.args.unit.now (units_of c.args.self.now) c.requires.numbered)
