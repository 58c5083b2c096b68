use Rattle.osc_player.proofs.Enough.{never_stops}
use Rattle.osc_player.proofs.laws.enough_room_never_stops.Goals as goal

pub returns : goal.returns
returns c caps lines room = never_stops caps lines room
