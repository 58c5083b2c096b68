use Rattle.std.proofs.Common.{◌≡◌, ◌≤◌, ◌+◌, length}
use Rattle.osc_pattern.specs.Items.{stands_for}
use Rattle.osc_pattern.proofs.item.stands_for.Given as goal

abbrev pub invariant-loop-first : goal.invariant-loop-first
invariant-loop-first g l =
    (stands_for l.rest l.byte ≡ stands_for l.list l.byte) × (l.initial.steps ≤ l.steps) × (l.steps + length l.rest ≤ l.initial.steps + length l.list)

abbrev pub decreases-loop-first : goal.decreases-loop-first
decreases-loop-first g l = length l.rest
