use Rattle.std.proofs.Common.{◌≡◌, ◌≤◌, ◌+◌, ◌*◌, length}
use Rattle.osc_pattern.specs.Reading.{match_part}
use Rattle.osc_pattern.specs.Views.{passes}
use Rattle.osc_pattern.proofs.matcher.match_choices.Given as goal

abbrev pub invariant-loop-part : goal.invariant-loop-part
invariant-loop-part g l =
    (passes (match_part l.part) l.reached l.name ≡ passes (match_part l.fn.part) l.from l.name)
    × (l.initial.steps ≤ l.steps) × (l.steps + (length l.name + 1) * length l.part ≤ l.initial.steps + (length l.name + 1) * length l.fn.part)

abbrev pub decreases-loop-part : goal.decreases-loop-part
decreases-loop-part g l = length l.part
