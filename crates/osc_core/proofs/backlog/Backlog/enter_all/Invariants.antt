use Rattle.std.proofs.Common.{◌≡◌, ◌+◌, ◌≤◌, length}
use Rattle.osc_packet.specs.Reading.{units_read}
use Rattle.osc_model.specs.Counts.{queued_blocks}
use Rattle.osc_model.specs.State.{AreNumbered}
use Rattle.osc_model.specs.Step as step
use Rattle.osc_packet.specs.Units.{blocks_of}
use Rattle.osc_core.specs.Views.{units_of, AreWaiting}
use Rattle.osc_core.proofs.backlog.Backlog.enter_all.Given as goal

abbrev pub invariant-loop-unit : goal.invariant-loop-unit
invariant-loop-unit l = record {
  can : (goal.iterator-loop-unit).can_next l.unit-iterator;
  finite : (goal.iterator-loop-unit).is_finite l.unit-iterator;
  units : step.enter_all (step.kept_numbered l.late l.clock l.number l.unit-iterator) (units_of l.self)
      ≡ step.enter_all (step.kept_numbered l.late l.clock l.first (units_read l.packet)) (units_of l.initial.self);
  waiting : AreWaiting l.self;
  numbered : AreNumbered l.number (units_of l.self);
  numbers : l.number + length l.unit-iterator ≡ l.first + length (units_read l.packet);
  room : length (units_of l.self) + length (step.kept l.late l.clock l.unit-iterator) ≤ l.self.queue.limit;
  blocks : queued_blocks (units_of l.self) + blocks_of (step.kept l.late l.clock l.unit-iterator) ≤ length l.self.store;
  places : l.self.queue.limit ≡ l.initial.self.queue.limit;
  limit : length l.self.store ≡ length l.initial.self.store;
}
