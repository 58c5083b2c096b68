use Rattle.osc_model.specs.Events.{release}
use Rattle.osc_model.specs.History.{state_of, stepped_in}
use Rattle.osc_uses.proofs.NotEarly.{not_early}
use Rattle.osc_uses.proofs.timed_bundle.release_due.Goals as goal

pub returns-clause-in_time : goal.returns-clause-in_time
returns-clause-in_time g c =
    let before = c.args.core.now.performance in
    let least = c.a_release_takes_the_least_unit.ensures.after before.caps before.history c.bytes.ensures.legal in
    let waits = c.a_queued_unit_waits_for_its_tag.ensures before.caps before.history c.bytes.ensures.legal in
    not_early (state_of before) (stepped_in before release) least waits
