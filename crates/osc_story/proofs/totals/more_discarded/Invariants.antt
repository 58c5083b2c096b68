use Rattle.std.proofs.Common.{◌≡◌}
use Rattle.osc_packet.specs.Reading.{units_read}
use Rattle.osc_story.specs.Totals.{more_discarded}
use Rattle.osc_story.proofs.totals.more_discarded.Given as goal

-- the count so far and the units that are left make the whole count
abbrev pub invariant-loop-unit : goal.invariant-loop-unit
invariant-loop-unit l = record {
  can : (goal.iterator-loop-unit).can_next l.unit-iterator;
  finite : (goal.iterator-loop-unit).is_finite l.unit-iterator;
  said : more_discarded l.late l.clock l.all l.unit-iterator ≡ more_discarded l.fn.late l.fn.clock l.fn.count (units_read l.packet);
}
