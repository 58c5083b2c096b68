use Rattle.std.proofs.Common.{◌≡◌, ◌-◌, ◌≤◌, length, drop}
use Rattle.osc_record.specs.Versions.{header_size_of}
use Rattle.osc_record.specs.Reading.{entries_at, outcome}
use Rattle.osc_record.proofs.sized_messages.check_entries.Given as goal

-- what comes of the entries that are left comes of all
abbrev pub invariant-loop-at : goal.invariant-loop-at
invariant-loop-at l = record {
  inside : l.at ≤ length l.bytes;
  same : outcome (entries_at l.version l.limit l.at (drop l.at l.bytes)) ≡ outcome
      (entries_at l.version l.limit (header_size_of l.version) (drop (header_size_of l.version) l.bytes));
}

abbrev pub decreases-loop-at : goal.decreases-loop-at
decreases-loop-at l = length l.bytes - l.at
