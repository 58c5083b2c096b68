use Rattle.std.proofs.Common.{◌-◌, nat_le}
use Rattle.std.specs.List.{slice_split}
use Rattle.osc_pattern.specs.Items.{is_slash}
use Rattle.osc_pattern.specs.Patterns.{parts_of}
use Rattle.osc_tree.specs.Views.{method_at}
use Rattle.osc_tree.specs.Walking.{shared}
use Rattle.osc_tree.proofs.Walks.{IsHalved}
use Rattle.osc_tree.proofs.common_names.search_sharing.Given as goal

abbrev pub invariant-loop-low : goal.invariant-loop-low
invariant-loop-low l =
    IsHalved (λ place. nat_le l.least (shared (slice_split is_slash l.names) (parts_of (method_at l.methods place).address))) l.places l.low l.high

abbrev pub decreases-loop-low : goal.decreases-loop-low
decreases-loop-low l = l.high - l.low
