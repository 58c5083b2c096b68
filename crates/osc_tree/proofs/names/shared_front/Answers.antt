use Rattle.std.proofs.Common.{◌+◌, sym, subst, arith}
use Rattle.osc_tree.specs.declared.names.Front.{Front}
use Rattle.osc_tree.proofs.Fronts.{IsSharing, begun_sharing, sharing_letter, sharing_slash, sharing_differs, sharing_ended}
use Rattle.osc_tree.proofs.names.shared_front.Goals.{then-names-at-eq47, else-names-at-eq47}
use Rattle.osc_tree.proofs.names.shared_front.Goals as goal

pub loop-at-init : goal.loop-at-init
loop-at-init c = begun_sharing c.args.names.now c.args.others.now c.args.known.names c.args.known.bytes c.requires.known

pub loop-at-preserved : goal.loop-at-preserved
loop-at-preserved c =
    elim c.if-names-at-eq47.branch [
      | then-names-at-eq47 w ↦
          subst (λ (front : Front). IsSharing c.args.names.now c.args.others.now front.names front.bytes (c.loop-at.at + 1)) (sym w.front-is)
          (sharing_slash c.args.names.now c.args.others.now c.loop-at.front.names c.loop-at.front.bytes c.loop-at.at (omega arith) (omega arith)
          c.if-names-at.false w.if-names-at-eq47.true c.loop-at.invariant)
      | else-names-at-eq47 w ↦
          subst (λ (front : Front). IsSharing c.args.names.now c.args.others.now front.names front.bytes (c.loop-at.at + 1)) (sym w.front-is)
          (sharing_letter c.args.names.now c.args.others.now c.loop-at.front.names c.loop-at.front.bytes c.loop-at.at (omega arith) (omega arith)
          c.if-names-at.false w.if-names-at-eq47.false c.loop-at.invariant)
    ]

pub returns-then-names-at-clause-count : goal.returns-then-names-at-clause-count
returns-then-names-at-clause-count c =
    sharing_differs c.args.names.now c.args.others.now c.loop-at.front.names c.loop-at.front.bytes c.loop-at.at (omega arith) (omega arith)
    c.if-names-at.true c.loop-at.invariant

pub returns-clause-count : goal.returns-clause-count
returns-clause-count c =
    sharing_ended c.args.names.now c.args.others.now c.loop-at.front.names c.loop-at.front.bytes c.loop-at.at (omega arith) c.loop-at.invariant
    c.requires.first c.requires.second
