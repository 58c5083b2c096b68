use Rattle.std.proofs.Common.{true, false, get_or, refl, arith}
use Rattle.osc_pattern.specs.Items.{is_slash}
use Rattle.osc_tree.proofs.SharedNames.{slash_here, letter_here, other_here, ended_here}
use Rattle.osc_tree.proofs.names.shared_names.Goals.{then-names-at-eq47, else-names-at-eq47}
use Rattle.osc_tree.proofs.names.shared_names.Goals.{else-ends_at-via-then-ends_at+else-ends_at-2, else-ends_at-via-else-ends_at}
use Rattle.osc_tree.proofs.names.shared_names.Goals as goal

pub returns-then-names-at-clause-count : goal.returns-then-names-at-clause-count
returns-then-names-at-clause-count c =
    let none = other_here c.args.names.now c.args.others.now c.loop-at.at (omega arith) (omega arith) c.if-names-at.true in
    omega (arith, c.loop-at.invariant.count)

pub loop-at-preserved : goal.loop-at-preserved
loop-at-preserved c =
    elim c.if-names-at-eq47.branch [
      | then-names-at-eq47 w ↦
          let one = slash_here c.args.names.now c.args.others.now c.loop-at.at (omega arith) (omega arith) c.if-names-at.false w.if-names-at-eq47.true in
          record { count = omega (arith, c.loop-at.invariant.count); bound = omega arith }
      | else-names-at-eq47 w ↦
          let none = letter_here c.args.names.now c.args.others.now c.loop-at.at (omega arith) (omega arith) c.if-names-at.false w.if-names-at-eq47.false in
          record { count = omega (arith, c.loop-at.invariant.count); bound = omega arith }
    ]

pub returns-then-ends_at-2-clause-count : goal.returns-then-ends_at-2-clause-count
returns-then-ends_at-2-clause-count c =
    let one = ended_here c.args.names.now c.args.others.now c.loop-at.at c.min-end.result true true (omega arith) (omega arith)
    c.if-ends_at.ensures c.if-ends_at-2.ensures in
    omega (arith, c.loop-at.invariant.count)

pub returns-else-ends_at-clause-count : goal.returns-else-ends_at-clause-count
returns-else-ends_at-clause-count c =
    elim c.else-ends_at.branch [
      | else-ends_at-via-then-ends_at+else-ends_at-2 w ↦
          let none = ended_here c.args.names.now c.args.others.now c.loop-at.at c.min-end.result true false (omega arith) (omega arith)
          w.if-ends_at.ensures w.if-ends_at-2.ensures in
          omega (arith, c.loop-at.invariant.count)
      | else-ends_at-via-else-ends_at w ↦
          let none = ended_here c.args.names.now c.args.others.now c.loop-at.at c.min-end.result false (is_slash (get_or c.args.others.now c.min-end.result 47))
          (omega arith) (omega arith) w.if-ends_at.ensures refl in
          omega (arith, c.loop-at.invariant.count)
    ]
