use Rattle.std.specs.VecDeque.{deque_capacity}
use Rattle.std.proofs.Common.{◌≡◌}
use Rattle.osc_record.specs.Reading.{unplaced}
use Rattle.osc_core.specs.Telling.{told}
use Rattle.osc_live.specs.Redone.{IsRedone}
use Rattle.osc_live.proofs.redo.redo_all.Given as goal

-- the entries so far are played again
abbrev pub invariant-loop-entry : goal.invariant-loop-entry
invariant-loop-entry g l = record {
  can : (goal.iterator-loop-entry g).can_next l.entry-iterator;
  finite : (goal.iterator-loop-entry g).is_finite l.entry-iterator;
  redone : IsRedone g.M.Method.keep g.M.Method.heard l.initial.core.performance.caps (unplaced l.initial.entry-iterator) l.initial.bank.items
      (unplaced l.entry-iterator) l.core.performance (told g.M.Method.keep g.M.Method.heard l.core.boxes.items) l.bank.items
      l.removed.items;
  capacity : deque_capacity l.bank ≡ deque_capacity l.initial.bank;
}
