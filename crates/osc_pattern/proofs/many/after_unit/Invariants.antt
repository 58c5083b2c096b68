use Rattle.std.proofs.Common.{◌≡◌, ◌≤◌, ◌+◌, ℕ, Bool, List, length}
use Rattle.std.specs.List.{list_any}
use Rattle.osc_pattern.specs.Reading.{match_part}
use Rattle.osc_pattern.specs.Repeats.{after_part}
use Rattle.osc_pattern.proofs.many.after_unit.Given as goal

abbrev pub invariant-loop-item : goal.invariant-loop-item
invariant-loop-item l =
    ((name : List ℕ) (test : List ℕ → Bool) → ((left : List ℕ) → list_any test (after_part l.unit left) ≡ match_part l.rest left)
    → list_any test (after_part l.fn.unit name) ≡ match_part l.part name)
    × (length l.fn.unit + length l.rest ≤ length l.part + length l.unit)

abbrev pub decreases-loop-item : goal.decreases-loop-item
decreases-loop-item l = length l.unit
