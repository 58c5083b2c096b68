use Rattle.std.proofs.Common.{◌≡◌, ◌+◌, length}
use Rattle.osc_packet.specs.Reading.{units_read}
use Rattle.osc_packet.specs.Units.{blocks_of}
use Rattle.osc_model.specs.Step.{kept}
use Rattle.osc_model.proofs.need.need_of.Given as goal

-- what is needed so far, and what the units that are left need, come to what all need
abbrev pub invariant-loop-unit : goal.invariant-loop-unit
invariant-loop-unit l = record {
  can : (goal.iterator-loop-unit).can_next l.unit-iterator;
  finite : (goal.iterator-loop-unit).is_finite l.unit-iterator;
  count : l.need.count + length l.unit-iterator ≡ length (units_read l.packet);
  places : l.need.places + length (kept l.late l.clock l.unit-iterator) ≡ length (kept l.late l.clock (units_read l.packet));
  blocks : l.need.blocks + blocks_of (kept l.late l.clock l.unit-iterator) ≡ blocks_of (kept l.late l.clock (units_read l.packet));
}
