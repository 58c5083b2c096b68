use Rattle.std.proofs.Common.{nat_le, sym, ◌∙◌}
use Rattle.std.specs.List.{slice_split}
use Rattle.osc_pattern.specs.Items.{is_slash}
use Rattle.osc_pattern.specs.Patterns.{parts_of}
use Rattle.osc_tree.specs.Views.{method_at}
use Rattle.osc_tree.specs.Walking.{shared}
use Rattle.osc_tree.proofs.Bounds.{none_first}
use Rattle.osc_tree.proofs.common_names.count_sharing.Goals as goal

pub returns-then-not-is_sharing-clause-count : goal.returns-then-not-is_sharing-clause-count
returns-then-not-is_sharing-clause-count c =
    none_first (λ place. nat_le c.args.least (shared (slice_split is_slash c.args.names.now) (parts_of (method_at c.args.methods.now place).address)))
    c.args.places.now c.in-len1-up.len_at_least (sym c.is_sharing.ensures ∙ c.if-not-is_sharing.true)
