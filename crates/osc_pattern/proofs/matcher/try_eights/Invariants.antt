use Rattle.std.proofs.Common.{◌≡◌, ◌≤◌, ◌+◌, ◌||◌, ℕ, Bool, List, length}
use Rattle.std.specs.List.{slice_split}
use Rattle.osc_pattern.specs.Items.{is_comma}
use Rattle.osc_pattern.specs.Views.{is_place_of, passes, AreMarks, texts_left}
use Rattle.osc_pattern.proofs.matcher.try_eights.Given as goal

abbrev pub invariant-loop-texts : goal.invariant-loop-texts
invariant-loop-texts g l =
    ((name : List ℕ) (test : List ℕ → Bool) → length name ≤ 63 → AreMarks l.marks name
    → (passes test l.next name || texts_left test (is_place_of l.places) (is_place_of l.reached) (slice_split is_comma l.texts) name)
    ≡ (passes test l.initial.next name || texts_left test (is_place_of l.initial.places) (is_place_of l.reached) (slice_split is_comma l.fn.texts) name))
    × (l.initial.steps ≤ l.steps) × (l.steps + length l.texts ≤ l.initial.steps + length l.fn.texts)

abbrev pub decreases-loop-texts : goal.decreases-loop-texts
decreases-loop-texts g l = length l.texts
