use Rattle.std.proofs.Common.{◌≡◌, ◌≤◌, ◌+◌, ◌||◌, ℕ, length}
use Rattle.osc_pattern.specs.Items.{stands_for}
use Rattle.osc_pattern.specs.ReadyParts.{is_one_of}
use Rattle.osc_pattern.proofs.bytes.ByteSet.of.Given as goal

abbrev pub invariant-loop-first : goal.invariant-loop-first
invariant-loop-first g l =
    ((byte : ℕ) → (is_one_of l.bytes byte || stands_for l.rest byte) ≡ stands_for l.list byte)
    × (l.initial.steps ≤ l.steps) × (l.steps + length l.rest ≤ l.initial.steps + length l.list)

abbrev pub decreases-loop-first : goal.decreases-loop-first
decreases-loop-first g l = length l.rest
