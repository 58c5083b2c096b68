use Rattle.std.proofs.Common.{◌≡◌, ◌+◌, ◌≤◌, length}
use Rattle.std.specs.Vec.{vec_len, vec_capacity}
use Rattle.std.specs.Vec.Iter.{into_iter_items}
use Rattle.osc_board.specs.Sights.{all_noted}
use Rattle.osc_board.proofs.last.note_all.Given as goal

-- what is noted so far and the notes that are left come to all, and there is room for them
abbrev pub invariant-loop-one : goal.invariant-loop-one
invariant-loop-one l = record {
  can : (goal.iterator-loop-one).can_next l.one-iterator;
  finite : (goal.iterator-loop-one).is_finite l.one-iterator;
  said : all_noted l.at (into_iter_items l.one-iterator) l.lasts.items ≡ all_noted l.at l.fn.notes.items l.initial.lasts.items;
  room : vec_len l.lasts + length (into_iter_items l.one-iterator) ≤ vec_capacity l.lasts;
}
