use Rattle.std.proofs.Common.{◌+◌, sym, subst, arith}
use Rattle.osc_tree.specs.declared.names.Front.{Front}
use Rattle.osc_tree.proofs.Fronts.{IsGoing, going_none, going_letter, going_slash}
use Rattle.osc_tree.proofs.names.whole_names.Goals.{then-names-at-eq47, else-names-at-eq47}
use Rattle.osc_tree.proofs.names.whole_names.Goals as goal

pub loop-at-init : goal.loop-at-init
loop-at-init c = going_none c.args.names.now

pub loop-at-preserved : goal.loop-at-preserved
loop-at-preserved c =
    elim c.if-names-at-eq47.branch [
      | then-names-at-eq47 w ↦
          subst (λ (front : Front). IsGoing c.args.names.now front.names front.bytes (c.loop-at.at + 1)) (sym w.front-is)
          (going_slash c.args.names.now c.loop-at.front.names c.loop-at.front.bytes c.loop-at.at (omega arith) w.if-names-at-eq47.true c.loop-at.invariant)
      | else-names-at-eq47 w ↦
          subst (λ (front : Front). IsGoing c.args.names.now front.names front.bytes (c.loop-at.at + 1)) (sym w.front-is)
          (going_letter c.args.names.now c.loop-at.front.names c.loop-at.front.bytes c.loop-at.at (omega arith) w.if-names-at-eq47.false c.loop-at.invariant)
    ]
