use Rattle.std.proofs.Common.{◌≡◌, ◌≤◌, ◌+◌, ◌||◌, ℕ, Bool, List, length, drop}
use Rattle.std.specs.List.{list_any}
use Rattle.osc_pattern.specs.Cuts.{any_rest}
use Rattle.osc_pattern.specs.Views.{is_place_of, passes}
use Rattle.osc_pattern.specs.ReadyParts.{after_one, is_as}
use Rattle.osc_pattern.proofs.matcher.after_one.Given as goal

abbrev pub invariant-loop-rest : goal.invariant-loop-rest
invariant-loop-rest g l =
    let left : (List ℕ → Bool) → List ℕ → Bool = λ test rest. list_any test (after_one (is_as l.bytes l.within) rest) in
    ((test : List ℕ → Bool) → (passes test l.next l.name || any_rest (left test) (is_place_of l.reached) l.place l.rest) ≡ passes (left test) l.reached l.name)
    × (drop l.place l.name ≡ l.rest) × (l.place + length l.rest ≡ length l.name) × (l.initial.steps ≤ l.steps)
    × (l.steps ≤ l.initial.steps + l.place)

abbrev pub decreases-loop-rest : goal.decreases-loop-rest
decreases-loop-rest g l = length l.rest
