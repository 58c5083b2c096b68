use Rattle.std.proofs.Common.{◌≡◌, ◌≢◌, ℕ, ◌≤◌, vec_len, drop}
use Rattle.std.specs.List.{AllByRecursion}
use Rattle.osc_live.proofs.back.take_of.Given as goal

-- no box from the place on has the id
abbrev pub invariant-loop-place : goal.invariant-loop-place
invariant-loop-place g l = record {
  within : l.place ≤ vec_len l.boxes;
  same : l.boxes ≡ l.initial.boxes;
  none : AllByRecursion (λ (one : ℕ × g.row.M.Denot). one.0 ≢ l.fn.id) (drop l.place l.boxes.items);
}

abbrev pub decreases-loop-place : goal.decreases-loop-place
decreases-loop-place g l = l.place
