use Rattle.std.proofs.Common.{◌≡◌, ◌+◌, ◌≤◌, ◌++◌, length}
use Rattle.std.specs.List.{AllByRecursion}
use Rattle.std.specs.Vec.{vec_len, vec_capacity}
use Rattle.osc_model.specs.Recordings.{IsRecordable}
use Rattle.osc_record.specs.Left.{entries_left}
use Rattle.osc_record.specs.Reading.{unplaced}
use Rattle.osc_replay.specs.Upgrading.{texts_of}
use Rattle.osc_replay.proofs.upgrade_text.append_entries.Given as goal

-- the bytes so far and those of the entries that are left are all, and there is room for these
abbrev pub invariant-loop-entry : goal.invariant-loop-entry
invariant-loop-entry l = record {
  can : (goal.iterator-loop-entry).can_next l.entry-iterator;
  finite : (goal.iterator-loop-entry).is_finite l.entry-iterator;
  recordable : AllByRecursion (λ entry. IsRecordable entry.caller entry.event entry.answer) (unplaced (entries_left l.entry-iterator));
  out : l.out.items ++ texts_of (unplaced (entries_left l.entry-iterator)) ≡ l.initial.out.items ++ texts_of (unplaced (entries_left l.initial.entry-iterator));
  small : length (texts_of (unplaced (entries_left l.entry-iterator))) ≤ 1073741824;
  room : vec_len l.out + length (texts_of (unplaced (entries_left l.entry-iterator))) ≤ vec_capacity l.out;
}
