use Rattle.std.proofs.Common.{◌≡◌, ◌≤◌, length, drop}
use Rattle.std.specs.List.{slice_split}
use Rattle.osc_pattern.specs.Items.{is_slash}
use Rattle.osc_pattern.specs.Patterns.{parts_of}
use Rattle.osc_report.proofs.Selecting.{all_match}
use Rattle.osc_report.proofs.selector.matches_in.Given as goal

-- whether the parts from a place on match the names that are left, is whether all match all
abbrev pub invariant-loop-place : goal.invariant-loop-place
invariant-loop-place g l = record {
  within : l.place ≤ length (parts_of l.pattern);
  same : all_match (drop l.place (parts_of l.pattern)) (slice_split is_slash l.rest) ≡ all_match (parts_of l.pattern) (slice_split is_slash l.names);
}

abbrev pub decreases-loop-place : goal.decreases-loop-place
decreases-loop-place g l = length l.rest
