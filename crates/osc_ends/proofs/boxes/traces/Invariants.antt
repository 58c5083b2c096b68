use Rattle.std.proofs.Common.{◌≡◌, ◌-◌, ◌≤◌, Some, [], length}
use Rattle.std.specs.List.{All}
use Rattle.osc_method.specs.contracts.trace.TraceMethod.TheImpl as trace
use Rattle.osc_ends.proofs.boxes.traces.Given as goal

abbrev pub invariant-loop-alloc : goal.invariant-loop-alloc
invariant-loop-alloc l = record {
  few : length l.traces.items ≤ 8192;
  keep : All (λ one. trace.ghosts.keep one ≡ record { most = 64; name = []; outlets = [] }) l.traces.items;
  heard : All (λ one. trace.ghosts.heard one ≡ Some []) l.traces.items;
}

abbrev pub decreases-loop-alloc : goal.decreases-loop-alloc
decreases-loop-alloc l = 8192 - length l.traces.items
