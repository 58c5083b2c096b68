-- Lanes as works of a server's life.
use Rattle.osc_lanes.specs.declared.work.LaneWork.{LaneWork}
use Rattle.osc_lanes.specs.Performs.{Part, part_of}

abbrev pub part_at : {M : Type 0} → LaneWork M → Part M
part_at work = part_of work.part
