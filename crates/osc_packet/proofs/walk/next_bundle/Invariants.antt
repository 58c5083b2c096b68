use Rattle.std.proofs.Common.{◌≡◌, ◌+◌, ◌-◌, ◌≤◌, length}
use Rattle.osc_packet.specs.Walks.{units_from, IsWalk}
use Rattle.osc_packet.proofs.walk.next_bundle.Given as goal

-- the units from here on are those from the first place on
abbrev pub invariant-loop-depth : goal.invariant-loop-depth
invariant-loop-depth l = record {
  walk : IsWalk l.bytes l.bundles l.depth l.place;
  shallow : l.depth ≤ l.fn.depth;
  few : l.depth ≤ 16;
  units : units_from l.bytes l.bundles l.fn.depth l.fn.place ≡ units_from l.bytes l.bundles l.depth l.place;
}

abbrev pub decreases-loop-depth : goal.decreases-loop-depth
decreases-loop-depth l = (length l.bytes - l.place) + l.depth
