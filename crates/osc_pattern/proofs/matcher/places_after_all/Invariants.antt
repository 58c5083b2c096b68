use Rattle.std.proofs.Common.{◌≡◌, ◌≤◌, ◌+◌, ◌*◌, ℕ, Bool, List, length}
use Rattle.std.specs.List.{list_any}
use Rattle.osc_pattern.specs.Views.{passes}
use Rattle.osc_pattern.specs.Repeats.{after_part}
use Rattle.osc_pattern.proofs.matcher.places_after_all.Given as goal

abbrev pub invariant-loop-next : goal.invariant-loop-next
invariant-loop-next g l =
    ((test : List ℕ → Bool) → passes (λ rest. list_any test (after_part l.items rest)) l.reached l.name
    ≡ passes (λ rest. list_any test (after_part l.fn.items rest)) l.from l.name)
    × (l.initial.steps ≤ l.steps) × (l.steps + (length l.name + 1) * length l.items ≤ l.initial.steps + (length l.name + 1) * length l.fn.items)

abbrev pub decreases-loop-next : goal.decreases-loop-next
decreases-loop-next g l = length l.items
