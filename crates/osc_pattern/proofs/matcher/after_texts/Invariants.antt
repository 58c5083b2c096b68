use Rattle.std.proofs.Common.{◌≡◌, ◌≤◌, ◌+◌, ◌||◌, ◌++◌, false, ℕ, Bool, List, length}
use Rattle.std.specs.List.{flat_map, list_any, slice_split}
use Rattle.osc_pattern.specs.Items.{is_comma, is_choice_end}
use Rattle.osc_pattern.specs.Cuts.{after_text}
use Rattle.osc_pattern.specs.Views.{is_place_of, passes, AreMarks, texts_left}
use Rattle.osc_pattern.proofs.matcher.after_texts.Given as goal

abbrev pub invariant-loop-rest : goal.invariant-loop-rest
invariant-loop-rest g l = (front : List ℕ) × (l.fn.texts ≡ front ++ l.rest) × (list_any is_choice_end front ≡ false)
    × ((name others : List ℕ) (test : List ℕ → Bool) → length name ≤ 63 → AreMarks l.marks name
    → (passes test l.next name || texts_left test (is_place_of l.places) (is_place_of l.reached) (slice_split is_comma others) name)
    ≡ passes (λ rest. list_any test (flat_map (after_text rest) (slice_split is_comma (front ++ others)))) l.reached name)
    × (l.initial.steps ≤ l.steps) × (l.steps + length l.rest ≤ l.initial.steps + length l.fn.texts)

abbrev pub decreases-loop-rest : goal.decreases-loop-rest
decreases-loop-rest g l = length l.rest
