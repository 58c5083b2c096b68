use Rattle.std.proofs.Common.{◌≡◌, ◌+◌, ◌-◌, ◌≤◌, length}
use Rattle.osc_ends.specs.Whole.{ReadSoFar}
use Rattle.osc_ends.proofs.whole.read_whole.Given as goal

abbrev pub invariant-loop-input : goal.invariant-loop-input
invariant-loop-input g l = record {
  within : length l.bytes.items ≤ l.most + 1;
  read : ReadSoFar (g.S.Source.left l.initial.input) (g.S.Source.left l.input) l.bytes.items;
  steady : g.S.Source.faults l.input ≡ g.S.Source.faults l.initial.input;
}

abbrev pub decreases-loop-input : goal.decreases-loop-input
decreases-loop-input g l = l.most + 1 - length l.bytes.items
