use Rattle.std.proofs.Common.{◌≡◌, ◌++◌, map}
use Rattle.osc_board.specs.Sights.{note_of}
use Rattle.osc_board.proofs.note.notes_of.Given as goal

-- the notes so far and those of the calls that are left are all notes
abbrev pub invariant-loop-call : goal.invariant-loop-call
invariant-loop-call l = record {
  can : (goal.iterator-loop-call).can_next l.call-iterator;
  finite : (goal.iterator-loop-call).is_finite l.call-iterator;
  said : l.notes.items ++ map note_of l.call-iterator ≡ map note_of l.fn.calls;
}
