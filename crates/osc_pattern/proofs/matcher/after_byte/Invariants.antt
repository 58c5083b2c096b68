use Rattle.std.proofs.Common.{◌≡◌, ◌≤◌, ◌+◌, ◌*◌, ◌||◌, ℕ, Bool, List, length, drop}
use Rattle.std.specs.List.{list_any}
use Rattle.osc_pattern.specs.Items.{item_text}
use Rattle.osc_pattern.specs.Cuts.{after_byte, any_rest}
use Rattle.osc_pattern.specs.Views.{item_of, is_place_of, passes}
use Rattle.osc_pattern.proofs.matcher.after_byte.Given as goal

abbrev pub invariant-loop-rest : goal.invariant-loop-rest
invariant-loop-rest g l =
    let left : (List ℕ → Bool) → List ℕ → Bool = λ test rest. list_any test (after_byte (item_of l.item) rest) in
    ((test : List ℕ → Bool) → (passes test l.next l.name || any_rest (left test) (is_place_of l.reached) l.place l.rest) ≡ passes (left test) l.reached l.name)
    × (drop l.place l.name ≡ l.rest) × (l.place + length l.rest ≡ length l.name) × (l.initial.steps ≤ l.steps)
    × (l.steps ≤ l.initial.steps + l.place * length (item_text (item_of l.item)))

abbrev pub decreases-loop-rest : goal.decreases-loop-rest
decreases-loop-rest g l = length l.rest
