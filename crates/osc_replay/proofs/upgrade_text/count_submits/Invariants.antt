use Rattle.std.proofs.Common.{◌≡◌, ◌+◌, ◌≤◌}
use Rattle.osc_record.specs.Left.{entries_left}
use Rattle.osc_record.specs.Reading.{unplaced}
use Rattle.osc_replay.specs.Upgrading.{submits_in}
use Rattle.osc_replay.proofs.upgrade_text.count_submits.Given as goal

-- the count so far and that of the entries that are left are that of all
abbrev pub invariant-loop-entry : goal.invariant-loop-entry
invariant-loop-entry l = record {
  can : (goal.iterator-loop-entry).can_next l.entry-iterator;
  finite : (goal.iterator-loop-entry).is_finite l.entry-iterator;
  counted : l.count + submits_in (unplaced (entries_left l.entry-iterator)) ≡ submits_in (unplaced (entries_left l.initial.entry-iterator));
  small : submits_in (unplaced (entries_left l.initial.entry-iterator)) ≤ 1073741824;
}
