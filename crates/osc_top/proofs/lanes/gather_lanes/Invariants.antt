use Rattle.std.proofs.Common.{◌≡◌, ◌++◌, map}
use Rattle.std.specs.List.{flat_map}
use Rattle.std.specs.Option.{option_map, option_or}
use Rattle.std.specs.Vec.Iter.{into_iter_items}
use Rattle.osc_record.specs.Shown.{room_of}
use Rattle.osc_lanes.specs.Performs.{told_of}
use Rattle.osc_top.specs.Lanes.{first_stop, lane_faults}
use Rattle.osc_top.proofs.lanes.gather_lanes.Given as goal

abbrev pub invariant-loop-lane : goal.invariant-loop-lane
invariant-loop-lane g l = record {
  removed :
      l.gathered.removed.items ++ flat_map (λ account. account.removed) (map told_of (into_iter_items l.lane-iterator))
      ≡ flat_map (λ account. account.removed) (map told_of l.fn.lanes.items);
  left :
      l.gathered.left.items ++ flat_map (λ account. account.back) (map told_of (into_iter_items l.lane-iterator))
      ≡ flat_map (λ account. account.back) (map told_of l.fn.lanes.items);
  faults : l.gathered.faults ++ lane_faults (map told_of (into_iter_items l.lane-iterator)) ≡ lane_faults (map told_of l.fn.lanes.items);
  stop :
      option_or (option_map room_of l.gathered.stop) (first_stop (map told_of (into_iter_items l.lane-iterator))) ≡ first_stop (map told_of l.fn.lanes.items);
}
