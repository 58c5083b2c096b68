use Rattle.std.proofs.Common.{◌≡◌, ◌^◌, subst, sym, rules}
use Rattle.osc_record.specs.Left.{entries_left}
use Rattle.osc_record.specs.Reading.{unplaced}
use Rattle.osc_replay.specs.Counted.{more_counted, no_counts, IsAtMost}
use Rattle.osc_replay.proofs.Tallies.{at_most, rises}
use Rattle.osc_replay.proofs.counts.count_entries.Goals as goal

pub add-requires : goal.add-requires
add-requires c =
    let start : more_counted c.loop-entry.counts (unplaced (entries_left c.loop-entry.entry-iterator))
    ≡ more_counted no_counts (unplaced (entries_left c.args.entries)) = search rules in
    rises c.loop-entry.counts (unplaced (entries_left c.loop-entry.entry-iterator)) (2 ^ 62)
    (subst (IsAtMost (2 ^ 62)) (sym start) (at_most (unplaced (entries_left c.args.entries)) (2 ^ 62) c.requires))
