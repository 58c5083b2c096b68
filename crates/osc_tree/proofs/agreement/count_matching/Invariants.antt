use Rattle.std.proofs.Common.{◌≡◌, ◌≤◌, ◌+◌, ◌-◌, length, drop, All}
use Rattle.std.specs.List.{slice_split}
use Rattle.osc_pattern.specs.declared.limits.TheConstants.{MAX_NAME}
use Rattle.osc_pattern.specs.Items.{is_slash}
use Rattle.osc_pattern.specs.Patterns.{parts_of}
use Rattle.osc_tree.specs.Walking.{agreeing, spent}
use Rattle.osc_tree.proofs.agreement.count_matching.Given as goal

abbrev pub invariant-loop-place : goal.invariant-loop-place
invariant-loop-place g l = record {
  bound : l.place ≤ length (parts_of l.pattern);
  short : All (λ name. length name ≤ MAX_NAME) (slice_split is_slash l.rest);
  count : l.place + agreeing (drop l.place (parts_of l.pattern)) (slice_split is_slash l.rest) ≡ agreeing (parts_of l.pattern) (slice_split is_slash l.names);
  names : l.place + length (slice_split is_slash l.rest) ≡ length (slice_split is_slash l.names);
  counted : l.initial.steps ≤ l.steps;
  bounded : l.steps + spent 0 (drop l.place (parts_of l.pattern)) (slice_split is_slash l.rest)
      ≤ l.initial.steps + spent l.fn.known.names (parts_of l.pattern) (slice_split is_slash l.names);
}

abbrev pub decreases-loop-place : goal.decreases-loop-place
decreases-loop-place g l = length (parts_of l.pattern) - l.place
