use Rattle.std.proofs.Common.{◌≡◌}
use Rattle.osc_record.specs.Left.{entries_left}
use Rattle.osc_record.specs.Reading.{unplaced}
use Rattle.osc_replay.specs.Counted.{more_counted}
use Rattle.osc_replay.proofs.counts.count_entries.Given as goal

-- the entries that are left bring the counts to those of all
abbrev pub invariant-loop-entry : goal.invariant-loop-entry
invariant-loop-entry l = record {
  can : (goal.iterator-loop-entry).can_next l.entry-iterator;
  finite : (goal.iterator-loop-entry).is_finite l.entry-iterator;
  counted : more_counted l.counts (unplaced (entries_left l.entry-iterator))
      ≡ more_counted l.initial.counts (unplaced (entries_left l.initial.entry-iterator));
}
