use Rattle.osc_lanes.proofs.Unstopped.{never_stops}
use Rattle.osc_lanes.proofs.laws.enough_room_never_stops.Goals as goal

pub returns : goal.returns
returns g c caps parts recording kept accounts unenrolled performs enough =
    never_stops g.M.Method.keep g.M.Method.heard caps parts recording kept accounts unenrolled performs enough
