use Rattle.osc_chain_laws.proofs.Room.{limits_enough}
use Rattle.osc_chain_laws.proofs.laws.the_limits_are_room_enough.Goals as goal

pub returns : goal.returns
returns c = limits_enough c.a_server_stays_sound.ensures.after c.carrying_is_small.ensures
