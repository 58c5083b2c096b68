use Rattle.osc_model.specs.State.{opening}
use Rattle.osc_model.specs.History.{after}
use Rattle.osc_model.proofs.Releases.{releases_least}
use Rattle.osc_model.proofs.laws.a_release_takes_the_least_unit.Goals as goal

pub returns-clause-step : goal.returns-clause-step
returns-clause-step c state ordered = releases_least state state.queue ordered

pub returns-clause-after : goal.returns-clause-after
returns-clause-after c caps history legal =
    let state = after (opening caps) history in
    let sound = c.a_server_stays_sound.ensures.after caps history legal in
    releases_least state state.queue sound.ordered
