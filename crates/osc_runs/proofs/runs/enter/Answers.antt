use Rattle.std.proofs.Common.{ap, sym, ◌∙◌}
use Rattle.osc_runs.proofs.Entered.{ok_then, enter_found, enter_new}
use Rattle.osc_runs.proofs.runs.enter.Goals as goal

pub returns-in-Some-clause-ok : goal.returns-in-Some-clause-ok
returns-in-Some-clause-ok c =
    ok_then c.again.result
    (enter_found c.args.rows.now.items c.deref.result.now c.args.step.now c.step.inside.address.now c.in-Some.place c.index_mut.result.now
    c.again.new.self (ap (λ p. p.address) c.step.view_is) c.deref.ensures.value (sym c.in-Some.is ∙ c.place_of.ensures)
    c.index_mut.ensures.value)
    c.again.ensures.ok

pub returns-in-None-clause-ok : goal.returns-in-None-clause-ok
returns-in-None-clause-ok c =
    ok_then c.add_row.result
    (enter_new c.args.rows.now.items c.deref.result.now c.args.step.now c.step.inside.address.now c.add_row.new.rows.items
    (ap (λ p. p.address) c.step.view_is) c.deref.ensures.value (sym c.in-None.is ∙ c.place_of.ensures))
    c.add_row.ensures.ok
