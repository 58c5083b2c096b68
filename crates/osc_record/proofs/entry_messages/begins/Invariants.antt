use Rattle.std.proofs.Common.{◌≡◌, ◌%◌, ◌≤◌, ◌-◌, take}
use Rattle.osc_record.proofs.entry_messages.begins.Given as goal

-- the bytes so far are those of the front
abbrev pub invariant-loop-at : goal.invariant-loop-at
invariant-loop-at g l = record {
  same : take l.at l.fn.bytes ≡ take l.at l.fn.front;
  within : l.at ≤ g.row.N;
  fours : l.at % 4 ≡ 0;
}

abbrev pub decreases-loop-at : goal.decreases-loop-at
decreases-loop-at g l = g.row.N - l.at
