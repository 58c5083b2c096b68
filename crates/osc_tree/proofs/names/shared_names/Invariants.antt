use Rattle.std.proofs.Common.{◌≡◌, ◌+◌, ◌≤◌, drop}
use Rattle.std.specs.List.{slice_split}
use Rattle.osc_pattern.specs.Items.{is_slash}
use Rattle.osc_tree.specs.Walking.{shared}
use Rattle.osc_tree.proofs.names.shared_names.Given as goal

abbrev pub invariant-loop-at : goal.invariant-loop-at
invariant-loop-at l = record {
  count : shared (slice_split is_slash l.names) (slice_split is_slash l.others)
      ≡ l.count + shared (slice_split is_slash (drop l.at l.names)) (slice_split is_slash (drop l.at l.others));
  bound : l.count ≤ l.at;
}
