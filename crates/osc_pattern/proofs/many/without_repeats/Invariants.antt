use Rattle.std.proofs.Common.{◌≡◌, ◌≤◌, ℕ, Bool, List, length}
use Rattle.std.specs.List.{list_any, flat_map, slice_split}
use Rattle.osc_pattern.specs.Items.{is_comma}
use Rattle.osc_pattern.specs.Cuts.{after_text}
use Rattle.osc_pattern.proofs.many.without_repeats.Given as goal

abbrev pub invariant-loop-others : goal.invariant-loop-others
invariant-loop-others l =
    ((name : List ℕ) (test : List ℕ → Bool) → list_any test (flat_map (after_text name) (slice_split is_comma l.rest))
    ≡ list_any test (flat_map (after_text name) (slice_split is_comma l.texts)))
    × (length l.rest ≤ length l.texts)

abbrev pub decreases-loop-others : goal.decreases-loop-others
decreases-loop-others l = length l.rest
