use Rattle.std.proofs.Common.{◌≡◌, ◌+◌, ◌≤◌, length}
use Rattle.osc_model.specs.State.{AreNumbered}
use Rattle.osc_model.specs.Step.{enter_all, kept, kept_numbered}
use Rattle.osc_replay.proofs.units.enter_all.Given as goal

-- the queue so far and the units that are left come to the whole queue
abbrev pub invariant-loop-unit : goal.invariant-loop-unit
invariant-loop-unit l = record {
  can : (goal.iterator-loop-unit).can_next l.unit-iterator;
  finite : (goal.iterator-loop-unit).is_finite l.unit-iterator;
  said : enter_all (kept_numbered l.late l.clock l.number l.unit-iterator) l.queue.items
      ≡ enter_all (kept_numbered l.late l.clock l.first l.fn.units) l.initial.queue.items;
  given : AreNumbered l.number l.queue.items;
  numbers : l.number + length l.unit-iterator ≡ l.first + length l.fn.units;
  room : length l.queue.items + length (kept l.late l.clock l.unit-iterator) ≤ l.queue.limit;
  limit : l.queue.limit ≡ l.initial.queue.limit;
}
