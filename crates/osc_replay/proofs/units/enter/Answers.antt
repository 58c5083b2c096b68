use Rattle.std.proofs.Common.{◌≡◌, ◌+◌, ℕ, List, length, max, subst, sym, ap, ◌∙◌, arith}
use Rattle.osc_packet.specs.Units.{TimedUnit}
use Rattle.osc_queue.specs.Timed.{enter}
use Rattle.osc_model.specs.State.{Queued, AreNumbered}
use Rattle.osc_model.specs.Step.{waiting}
use Rattle.osc_model.proofs.Queues.{one_numbered, one_counted}
use Rattle.osc_replay.proofs.units.enter.Goals as goal

-- the queue, where its unit is due at the greater of its tag and the clock
entered : (unit : TimedUnit) (tag clock due number : ℕ) (queue new : List Queued) → tag ≡ unit.tag → due ≡ max tag clock → new ≡ enter (due, number, unit) queue
    → new ≡ enter (waiting clock number unit) queue
entered unit tag clock due number queue new tag_is due_is is = is ∙ ap (λ (n : ℕ). enter (n, number, unit) queue) (due_is ∙ ap (λ (t : ℕ). max t clock) tag_is)

pub returns-clause-given : goal.returns-clause-given
returns-clause-given c =
    let is = entered c.args.unit c.tag.result c.args.clock c.max.result c.args.number c.args.queue.now.items c.enter.new.self.items
    c.tag.ensures c.max.ensures c.enter.ensures.items in
    subst (AreNumbered (c.args.number + 1)) (sym is) (one_numbered c.args.clock c.args.number c.args.unit c.args.queue.now.items c.requires.given)

pub returns-clause-length : goal.returns-clause-length
returns-clause-length c = omega (arith, ap length c.enter.ensures.items, one_counted (c.max.result, c.args.number, c.args.unit) c.args.queue.now.items)
