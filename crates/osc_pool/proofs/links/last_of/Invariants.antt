use Rattle.std.proofs.Common.{◌≡◌, ◌+◌, ◌-◌, ◌≤◌, ℕ}
use Rattle.osc_pool.specs.Paths.{path, block_after, times}
use Rattle.osc_pool.proofs.links.last_of.Given as goal

-- what is left of the path ends where the whole does
abbrev pub invariant-loop-step : goal.invariant-loop-step
invariant-loop-step l = record {
  left : (b : ℕ) → times b (path l.next (l.count - l._step + 1) l.block) ≤ times b (path l.next l.count l.first);
  ends : block_after l.next (l.count - l._step) l.block ≡ block_after l.next (l.count - 1) l.first;
}
