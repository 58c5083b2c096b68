use Rattle.std.proofs.Common.{◌≡◌, ◌<◌, length}
use Rattle.std.specs.Prelude.{slice_get}
use Rattle.std.specs.List.{slice_split}
use Rattle.osc_pattern.specs.Items.{is_slash}
use Rattle.osc_pattern.proofs.pattern.nth_part.Given as goal

abbrev pub invariant-loop-part : goal.invariant-loop-part
invariant-loop-part l =
    (slice_get (slice_split is_slash l.rest) l.left ≡ slice_get (slice_split is_slash l.parts) l.place) × (l.left < length (slice_split is_slash l.rest))

abbrev pub decreases-loop-part : goal.decreases-loop-part
decreases-loop-part l = length l.rest
