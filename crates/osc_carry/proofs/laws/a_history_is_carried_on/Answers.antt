use Rattle.osc_carry.proofs.Whole.{history_carried}
use Rattle.osc_carry.proofs.laws.a_history_is_carried_on.Goals as goal

pub returns : goal.returns
returns c caps history room legal bytes fits =
    history_carried c.known.ensures caps history room legal bytes (c.a_server_stays_sound.ensures.after caps history legal) fits
