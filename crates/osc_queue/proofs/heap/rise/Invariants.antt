use Rattle.std.proofs.Common.{◌+◌, ◌-◌, ◌*◌, ◌^◌, ◌<◌, ◌≤◌, length}
use Rattle.std.specs.List.Sorted.{IsPermutation}
use Rattle.osc_queue.specs.Heaps.{Rises}
use Rattle.osc_queue.proofs.heap.rise.Given as goal

-- it is a heap but for the entry that goes up, and each step halves its place
abbrev pub invariant-loop-place : goal.invariant-loop-place
invariant-loop-place g l = record {
  within : 0 < l.place → l.place < length l.entries;
  heap : Rises l.place l.entries;
  same : IsPermutation l.initial.entries l.entries;
  counted : l.initial.steps ≤ l.steps;
  bounded : (l.place + 1) * 2 ^ (l.steps - l.initial.steps) ≤ l.fn.place + 1;
}

abbrev pub decreases-loop-place : goal.decreases-loop-place
decreases-loop-place g l = l.place
