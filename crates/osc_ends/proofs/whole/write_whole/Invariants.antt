use Rattle.std.proofs.Common.{◌-◌, ◌≤◌, length, take}
use Rattle.osc_ends.specs.Sinks.{change, Gains, IsSteady}
use Rattle.osc_ends.proofs.whole.write_whole.Given as goal

abbrev pub invariant-loop-at : goal.invariant-loop-at
invariant-loop-at g l = record {
  within : l.at ≤ length l.bytes;
  gained : Gains (change g.O.Sink l.initial.out l.out) (take l.at l.bytes);
  steady : IsSteady (change g.O.Sink l.initial.out l.out);
}

abbrev pub decreases-loop-at : goal.decreases-loop-at
decreases-loop-at g l = length l.bytes - l.at
