use Rattle.std.proofs.Common.{sym, ◌∙◌}
use Rattle.osc_console.proofs.Printed.{prints_more}
use Rattle.osc_console.proofs.printer.print_while.Goals as goal
use Rattle.osc_console.proofs.printer.print_while.Goals.{then-whole, else-whole}

pub returns-then-is_over : goal.returns-then-is_over
returns-then-is_over g c =
    prints_more g.O.Sink _ _ _ _ _ _ _ _ _
    (elim c.if-whole.branch [
      | then-whole w ↦ λ whole. (w.if-whole.true, sym w.whole-is ∙ whole)
      | else-whole w ↦ λ whole. cc (sym w.if-whole.false ∙ sym w.whole-is ∙ whole)
    ])
    c.loop.invariant c.print_rings-taken.ensures

pub loop-preserved : goal.loop-preserved
loop-preserved g c =
    prints_more g.O.Sink _ _ _ _ _ _ _ _ _
    (elim c.if-whole.branch [
      | then-whole w ↦ λ whole. (w.if-whole.true, sym w.whole-is ∙ whole)
      | else-whole w ↦ λ whole. cc (sym w.if-whole.false ∙ sym w.whole-is ∙ whole)
    ])
    c.loop.invariant c.print_rings-taken.ensures
