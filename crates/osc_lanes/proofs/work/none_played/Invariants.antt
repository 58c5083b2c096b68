use Rattle.std.proofs.Common.{◌≡◌, ◌++◌, map, None}
use Rattle.std.specs.Vec.Iter.{into_iter_items}
use Rattle.osc_lanes.specs.Shares.{ended}
use Rattle.osc_lanes.specs.Performs.{told_of}
use Rattle.osc_lanes.specs.Works.{part_at}
use Rattle.osc_lanes.proofs.work.none_played.Given as goal

abbrev pub invariant-loop-work : goal.invariant-loop-work
invariant-loop-work g l =
    map told_of l.lanes.items ++ map (λ part. ended part.boxes None) (map part_at (into_iter_items l.work-iterator))
    ≡ map (λ part. ended part.boxes None) (map part_at l.fn.works.items)
