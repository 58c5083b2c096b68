use Rattle.std.proofs.Common.{◌≡◌, ◌+◌, length}
use Rattle.std.specs.Prelude.{option_map}
use Rattle.std.specs.List.{slice_split}
use Rattle.osc_pattern.specs.Items.{is_slash}
use Rattle.osc_pattern.specs.Patterns.{open_place}
use Rattle.osc_pattern.proofs.check.first_open.Given as goal

abbrev pub invariant-loop-at : goal.invariant-loop-at
invariant-loop-at l =
    (open_place (slice_split is_slash l.parts) ≡ option_map (λ at. l.slash + at) (open_place (slice_split is_slash l.rest)))
    × (l.slash + length l.rest ≡ length l.parts)

abbrev pub decreases-loop-at : goal.decreases-loop-at
decreases-loop-at l = length l.rest
