use Rattle.std.proofs.Common.{◌≡◌}
use Rattle.osc_record.specs.Left.{entries_left}
use Rattle.osc_record.specs.Reading.{unplaced}
use Rattle.osc_story.specs.Standings.{opened, seen_all, AgreesAll}
use Rattle.osc_carry.proofs.recording.seen.Given as goal

abbrev pub invariant-loop-entry : goal.invariant-loop-entry
invariant-loop-entry l = record {
  can : (goal.iterator-loop-entry).can_next l.entry-iterator;
  finite : (goal.iterator-loop-entry).is_finite l.entry-iterator;
  agree : AgreesAll l.story (unplaced (entries_left l.entry-iterator));
  seen : seen_all l.story (unplaced (entries_left l.entry-iterator))
      ≡ seen_all (opened l.fn.reader.caps.late) (unplaced l.fn.reader.entries);
}
