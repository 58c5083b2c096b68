use Rattle.osc_model.specs.State.{opening}
use Rattle.osc_model.specs.History.{after}
use Rattle.osc_carry.proofs.Waits.{history_waits}
use Rattle.osc_carry.proofs.Carrying.{units_short}
use Rattle.osc_carry.proofs.laws.a_waiting_unit_is_short.Goals as goal

pub returns : goal.returns
returns c caps history legal bytes =
    let state = after (opening caps) history in
    units_short state.caps.late state.clock state.queue (history_waits c.known.ensures caps history legal bytes).each
