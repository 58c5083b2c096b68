use Rattle.std.proofs.Common.{◌≡◌, ◌≤◌, ◌+◌, ◌*◌, ℕ, List, length}
use Rattle.std.specs.List.{list_any}
use Rattle.osc_pattern.specs.Reading.{match_part}
use Rattle.osc_pattern.specs.Repeats.{after_times}
use Rattle.osc_pattern.proofs.many.repeats.Given as goal

abbrev pub invariant-loop-others : goal.invariant-loop-others
invariant-loop-others l =
    ((name : List ℕ) → list_any (match_part l.rest) (after_times l.times l.unit name) ≡ match_part l.part name)
    × (l.times * length l.unit + length l.rest ≤ length l.part) × (l.times + length l.rest ≤ length l.part)

abbrev pub decreases-loop-others : goal.decreases-loop-others
decreases-loop-others l = length l.rest
