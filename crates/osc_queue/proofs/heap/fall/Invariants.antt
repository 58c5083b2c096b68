use Rattle.std.proofs.Common.{◌+◌, ◌-◌, ◌^◌, ◌<◌, ◌≤◌, length}
use Rattle.std.specs.List.Sorted.{IsPermutation}
use Rattle.osc_queue.specs.Heaps.{Sinks}
use Rattle.osc_queue.proofs.heap.fall.Given as goal

-- it is a heap but for the entry that goes down, and each step doubles its place
abbrev pub invariant-loop-next : goal.invariant-loop-next
invariant-loop-next g l = record {
  within : l.place ≤ length l.entries;
  inside : 0 < l.place → l.place < length l.entries;
  heap : Sinks l.place l.entries;
  same : IsPermutation l.initial.entries l.entries;
  counted : l.initial.steps ≤ l.steps;
  bounded : 2 ^ (l.steps - l.initial.steps) ≤ l.place + 1;
}

abbrev pub decreases-loop-next : goal.decreases-loop-next
decreases-loop-next g l = length l.entries - l.place
