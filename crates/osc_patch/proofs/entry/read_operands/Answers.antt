use Rattle.std.proofs.Common.{arith}
use Rattle.std.proofs.lemmas.Bool.{ltb-true, ltb-false}
use Rattle.osc_patch.proofs.Operands.{wrong_told}
use Rattle.osc_patch.proofs.entry.read_operands.Goals as goal
use Rattle.osc_patch.proofs.entry.read_operands.Goals.{then-operands-lt1, else-operands-lt1+else-operands-lt2}
use Rattle.osc_patch.proofs.entry.read_operands.Goals.{then-operands-lt3, else-operands-lt3+else-operands-lt4}

pub returns : goal.returns
returns c = wrong_told c.args.line c.args.operands.now c.wrong.result
    (elim c.if-operands-lt1.branch [
      | then-operands-lt1 w ↦ λ e. omega (arith, e, ltb-true, ltb-false)
      | else-operands-lt1+else-operands-lt2 w ↦ λ e. omega (arith, e, ltb-true, ltb-false)
    ])
    (elim c.if-operands-lt3.branch [
      | then-operands-lt3 w ↦ λ e. omega (arith, e, ltb-true, ltb-false)
      | else-operands-lt3+else-operands-lt4 w ↦ λ e. grind (arith, e, ltb-true, ltb-false)
    ]) c.wrong.ensures
