use Rattle.std.proofs.Common.{◌<◌, ◌≤◌, ◌-◌, ℕ, length, map, get_or}
use Rattle.osc_core.proofs.boxes.first_from.Given as goal

abbrev pub invariant-loop-low : goal.invariant-loop-low
invariant-loop-low g l = record {
  order : l.low ≤ l.high;
  within : l.high ≤ length l.boxes;
  below : (k : ℕ) → k < l.low → get_or (map (λ one. one.0) l.boxes) k 0 < l.id;
  above : (k : ℕ) → l.high ≤ k → k < length l.boxes → l.id ≤ get_or (map (λ one. one.0) l.boxes) k 0;
}

abbrev pub decreases-loop-low : goal.decreases-loop-low
decreases-loop-low g l = l.high - l.low
