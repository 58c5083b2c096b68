use Rattle.std.proofs.Common.{◌≡◌, ℕ, ◌≤◌, ◌<◌, true, take, get_or, None}
use Rattle.osc_pattern.specs.Items.{is_slash}
use Rattle.osc_tree.specs.Registry.{id_at}
use Rattle.osc_tree.specs.Views.{methods_of}
use Rattle.osc_tree.proofs.lookup.id_above.Given as goal

abbrev pub invariant-loop-end : goal.invariant-loop-end
invariant-loop-end l = (k : ℕ) → 1 ≤ k → k < l.end → is_slash (get_or l.address k 0) ≡ true → id_at (methods_of l.methods) (take k l.address) ≡ None
