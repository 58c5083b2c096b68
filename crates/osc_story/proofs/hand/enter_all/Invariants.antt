use Rattle.std.proofs.Common.{◌≡◌, ◌+◌, ◌≤◌, length}
use Rattle.std.specs.Vec.{vec_len, vec_capacity}
use Rattle.std.specs.Vec.Iter.{into_iter_items}
use Rattle.osc_story.specs.Standings.{all_enter}
use Rattle.osc_story.proofs.hand.enter_all.Given as goal

-- the queue so far and the units that are left come to the whole queue, and there is room for them
abbrev pub invariant-loop-unit : goal.invariant-loop-unit
invariant-loop-unit l = record {
  can : (goal.iterator-loop-unit).can_next l.unit-iterator;
  finite : (goal.iterator-loop-unit).is_finite l.unit-iterator;
  said : all_enter (into_iter_items l.unit-iterator) l.waiting.items ≡ all_enter l.fn.units.items l.initial.waiting.items;
  room : vec_len l.waiting + length (into_iter_items l.unit-iterator) ≤ vec_capacity l.waiting;
}
