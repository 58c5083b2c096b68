use Rattle.std.proofs.Common.{◌≡◌, ◌+◌, ◌*◌, ◌≤◌, length}
use Rattle.osc_packet.specs.Reading.{units_read}
use Rattle.osc_packet.specs.Units.{blocks_of}
use Rattle.osc_packet.proofs.packet.Packet.blocks.Given as goal

abbrev pub invariant-loop-unit : goal.invariant-loop-unit
invariant-loop-unit l = record {
  can : (goal.iterator-loop-unit).can_next l.unit-iterator;
  finite : (goal.iterator-loop-unit).is_finite l.unit-iterator;
  total : l.blocks + blocks_of l.unit-iterator ≡ blocks_of (units_read l.self);
  small : l.blocks + 1024 * length l.unit-iterator ≤ 1024 * length (units_read l.self);
  few : length (units_read l.self) ≤ 65504;
}
