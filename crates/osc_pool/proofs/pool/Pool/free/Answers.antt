use Rattle.std.proofs.Common.{◌≡◌, ℕ, ◌+◌, List, length, subst}
use Rattle.osc_pool.specs.Holding.{used_blocks}
use Rattle.osc_pool.proofs.Stored.{free_is_left}
use Rattle.osc_pool.proofs.pool.Pool.free.Goals as goal

pub returns : goal.returns
returns c = subst (λ (l : List (List ℕ)). c.self.inside.free + used_blocks l ≡ length l) c.self.view_is (free_is_left c.self.invariant.sound)
