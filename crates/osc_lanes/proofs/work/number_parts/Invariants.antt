use Rattle.std.proofs.Common.{◌≡◌, ◌++◌, map, length}
use Rattle.std.specs.Vec.Iter.{into_iter_items}
use Rattle.osc_lanes.specs.Performs.{part_of}
use Rattle.osc_lanes.specs.Works.{part_at}
use Rattle.osc_lanes.proofs.work.number_parts.Given as goal

abbrev pub invariant-loop-part : goal.invariant-loop-part
invariant-loop-part g l = record {
  parts : map part_at l.works.items ++ map part_of (into_iter_items l.part-iterator) ≡ map part_of l.fn.parts.items;
  lane : l.lane ≡ length l.works.items;
}
