use Rattle.std.proofs.Common.{rules, ◌∷◌, ◌<◌, refl, sym, subst, ◌∙◌}
use Rattle.osc_console.proofs.Printed.{gains_more}
use Rattle.osc_console.proofs.printer.print_rings.Goals as goal
use Rattle.osc_console.proofs.printer.print_rings.Goals.{then-whole, else-whole}

pub loop-ring-preserved : goal.loop-ring-preserved
loop-ring-preserved g c =
    let took = c.print_ring-taken in
    let before = c.loop-ring.invariant in
    record {
      pieces = record { place = c.loop-ring.ring-index; bytes = took.ensures.bytes } ∷ before.pieces;
      came = (
        c.loop-ring.rings,
        before.came,
        record {
          ring = c.ring-item.result;
          left = took.new.ring;
          within = subst (λ n. c.loop-ring.ring-index < n) (sym c.loop-ring.auto.rings) c.loop-ring-test.true;
          was = c.ring-item.is;
          now = refl;
          gave = search rules;
        },
      );
      gains = elim c.if-whole.branch [
        | then-whole w ↦ λ whole. gains_more g.O.Sink _ _ _ _ _
            (before.gains w.if-whole.true) (took.ensures.gains (sym w.whole-is ∙ whole))
        | else-whole w ↦ λ whole. cc (sym w.if-whole.false ∙ sym w.whole-is ∙ whole)
      ];
    }
