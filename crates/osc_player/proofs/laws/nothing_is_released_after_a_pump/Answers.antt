use Rattle.std.proofs.Common.{length, refl}
use Rattle.osc_player.proofs.Pumps.{drained}
use Rattle.osc_player.proofs.laws.nothing_is_released_after_a_pump.Goals as goal

pub returns : goal.returns
returns c state = drained (length state.queue) state refl
