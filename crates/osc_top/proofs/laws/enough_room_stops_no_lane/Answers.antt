use Rattle.osc_top.proofs.Unstopped.{none_stopped}
use Rattle.osc_top.proofs.laws.enough_room_stops_no_lane.Goals as goal

pub returns : goal.returns
returns g c = none_stopped g.M.Method.keep g.M.Method.heard c.enough_room_never_stops.ensures
