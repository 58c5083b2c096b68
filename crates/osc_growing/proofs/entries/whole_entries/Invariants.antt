use Rattle.std.proofs.Common.{◌+◌, ◌-◌, ◌≤◌, ℕ, length, drop}
use Rattle.osc_growing.specs.Entries.{HoldsWhole}
use Rattle.osc_growing.proofs.entries.whole_entries.Given as goal

-- the whole entries that are left are entries of all
abbrev pub invariant-loop-end : goal.invariant-loop-end
invariant-loop-end l = record {
  inside : l.end ≤ length l.bytes;
  whole : (count : ℕ) → HoldsWhole (drop l.end l.bytes) count → HoldsWhole l.bytes (l.end + count);
}

abbrev pub decreases-loop-end : goal.decreases-loop-end
decreases-loop-end l = length l.bytes - l.end
