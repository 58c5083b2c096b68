use Rattle.std.proofs.Common.{◌≡◌, ◌≤◌, ◌+◌, ◌*◌, false, nat_lt, length}
use Rattle.std.specs.List.{list_any, slice_split}
use Rattle.osc_pattern.specs.Items.{is_slash}
use Rattle.osc_pattern.specs.Patterns.{match_parts}
use Rattle.osc_pattern.proofs.pattern.match_parts.Given as goal

abbrev pub invariant-loop-other_parts : goal.invariant-loop-other_parts
invariant-loop-other_parts g l =
    (match_parts (slice_split is_slash l.parts) (slice_split is_slash l.names)
    ≡ match_parts (slice_split is_slash l.fn.parts) (slice_split is_slash l.fn.names)) × (l.initial.steps ≤ l.steps)
    × (list_any (λ name. nat_lt 63 (length name)) (slice_split is_slash l.names) ≡ false)
    × (l.steps + 64 * (length l.parts + 1) ≤ l.initial.steps + 64 * (length l.fn.parts + 1))

abbrev pub decreases-loop-other_parts : goal.decreases-loop-other_parts
decreases-loop-other_parts g l = length l.parts
