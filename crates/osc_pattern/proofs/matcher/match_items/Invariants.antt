use Rattle.std.proofs.Common.{◌≡◌, ◌≤◌, ◌+◌, ◌*◌, length}
use Rattle.osc_pattern.specs.Views.{passes}
use Rattle.osc_pattern.specs.ReadyParts.{match_ready, all_ready_size}
use Rattle.osc_pattern.proofs.matcher.match_items.Given as goal

abbrev pub invariant-loop-items : goal.invariant-loop-items
invariant-loop-items g l =
    (passes (match_ready l.items l.part.rest.now) l.reached l.name ≡ match_ready l.part.items.now l.part.rest.now l.name)
    × (l.initial.steps ≤ l.steps)
    × (l.steps + (length l.name + 1) * (all_ready_size l.items + length l.part.rest.now)
    ≤ l.initial.steps + (length l.name + 1) * (all_ready_size l.part.items.now + length l.part.rest.now))

abbrev pub decreases-loop-items : goal.decreases-loop-items
decreases-loop-items g l = length l.items
