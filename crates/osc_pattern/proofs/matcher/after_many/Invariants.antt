use Rattle.std.proofs.Common.{◌≡◌, ◌≤◌, ◌+◌, ◌*◌, ℕ, Bool, List, length}
use Rattle.std.specs.List.{list_any}
use Rattle.osc_pattern.specs.Views.{passes}
use Rattle.osc_pattern.specs.Repeats.{after_times}
use Rattle.osc_pattern.proofs.matcher.after_many.Given as goal

abbrev pub invariant-loop-left : goal.invariant-loop-left
invariant-loop-left g l =
    ((test : List ℕ → Bool) → passes (λ rest. list_any test (after_times l.left l.many.unit.now rest)) l.reached l.name
    ≡ passes (λ rest. list_any test (after_times l.many.times l.many.unit.now rest)) l.from l.name)
    × (l.initial.steps ≤ l.steps)
    × (l.steps + (length l.name + 1) * (l.left * length l.many.unit.now)
    ≤ l.initial.steps + (length l.name + 1) * (l.many.times * length l.many.unit.now))

abbrev pub decreases-loop-left : goal.decreases-loop-left
decreases-loop-left g l = l.left
