use Rattle.std.proofs.Common.{max, ap, ◌∙◌}
use Rattle.osc_core.proofs.Joins.{new_unit, unit_entered}
use Rattle.osc_core.proofs.units.enter.Goals as goal

pub enter-requires-clause-new : goal.enter-requires-clause-new
enter-requires-clause-new c = new_unit c.args.number c.args.queue.now.items c.requires.running.numbers

pub returns-clause-queue : goal.returns-clause-queue
returns-clause-queue c =
    rw c.enter.ensures.items (unit_entered c.args.store.now c.put-stored.new.self c.args.queue.now.items c.args.clock c.args.number _ c.args.unit.now
    c.put-stored.result c.requires.running (c.max-due.ensures ∙ ap (λ n. max n c.args.clock) c.tag.ensures) c.put-stored.ensures.stored
    c.put-stored.ensures.value c.put-stored.ensures.new c.put-stored.ensures.kept c.put-stored.ensures.used).queue_is

pub returns-clause-running : goal.returns-clause-running
returns-clause-running c =
    rw c.enter.ensures.items (unit_entered c.args.store.now c.put-stored.new.self c.args.queue.now.items c.args.clock c.args.number _ c.args.unit.now
    c.put-stored.result c.requires.running (c.max-due.ensures ∙ ap (λ n. max n c.args.clock) c.tag.ensures) c.put-stored.ensures.stored
    c.put-stored.ensures.value c.put-stored.ensures.new c.put-stored.ensures.kept c.put-stored.ensures.used).running
