use Rattle.std.proofs.Common.{◌≡◌, ◌≤◌, ◌+◌, ◌*◌, length}
use Rattle.osc_pattern.specs.Reading.{match_part}
use Rattle.osc_pattern.proofs.matcher.match_part.Given as goal

abbrev pub invariant-loop-item : goal.invariant-loop-item
invariant-loop-item g l =
    (match_part l.part l.name ≡ match_part l.fn.part l.fn.name) × (length l.name ≤ length l.fn.name) × (l.initial.steps ≤ l.steps)
    × (l.steps + (length l.name + 1) * length l.part ≤ l.initial.steps + (length l.fn.name + 1) * length l.fn.part)

abbrev pub decreases-loop-item : goal.decreases-loop-item
decreases-loop-item g l = length l.part
