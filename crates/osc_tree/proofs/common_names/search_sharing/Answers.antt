use Rattle.std.proofs.Common.{◌+◌, ◌-◌, ◌/◌, nat_le, sym, ◌∙◌, arith}
use Rattle.std.specs.List.{slice_split}
use Rattle.osc_pattern.specs.Items.{is_slash}
use Rattle.osc_pattern.specs.Patterns.{parts_of}
use Rattle.osc_tree.specs.Views.{method_at}
use Rattle.osc_tree.specs.Walking.{shared}
use Rattle.osc_tree.proofs.Walks.{halved_none, halved_up, halved_down, halved_is}
use Rattle.osc_tree.proofs.common_names.search_sharing.Goals as goal

pub loop-low-init : goal.loop-low-init
loop-low-init c =
    halved_none (λ place. nat_le c.args.least (shared (slice_split is_slash c.args.names.now) (parts_of (method_at c.args.methods.now place).address)))
    c.args.places.now

pub loop-low-preserved-then-is_sharing : goal.loop-low-preserved-then-is_sharing
loop-low-preserved-then-is_sharing c =
    let middle = c.loop-low.low + (c.loop-low.high - c.loop-low.low) / 2 in
    halved_up _ c.args.places.now c.loop-low.low c.loop-low.high middle c.requires.parted c.loop-low.invariant (omega arith)
    (sym c.is_sharing.ensures ∙ c.if-is_sharing.true)

pub loop-low-preserved : goal.loop-low-preserved
loop-low-preserved c =
    let middle = c.loop-low.low + (c.loop-low.high - c.loop-low.low) / 2 in
    halved_down _ c.args.places.now c.loop-low.low c.loop-low.high middle c.requires.parted c.loop-low.invariant (omega arith) (omega arith)
    (sym c.is_sharing.ensures ∙ c.if-is_sharing.false)

pub returns-clause-count : goal.returns-clause-count
returns-clause-count c = halved_is _ c.args.places.now c.loop-low.low c.loop-low.high c.loop-low.invariant (omega (arith, c.loop-low-test.false))
