use Rattle.osc_chain_laws.proofs.Continuing.{stage_continues}
use Rattle.osc_chain_laws.proofs.laws.a_carried_stage_goes_on.Goals as goal

pub returns : goal.returns
returns g c caps old room relays stage clock staged legal bytes fits limits stand part is =
    stage_continues _ _ _ _ stage clock staged is caps old room relays (c.a_history_is_carried_on.ensures caps old room legal bytes fits) limits stand part
