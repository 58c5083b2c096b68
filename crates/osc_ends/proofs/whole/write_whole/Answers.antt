use Rattle.std.proofs.Common.{◌∙◌, arith, subst, length-drop}
use Rattle.std.proofs.lemmas.List.{take_rest}
use Rattle.osc_edge.specs.declared.sink.Put.TheVariants.{Took}
use Rattle.osc_edge.specs.Sink.{AddsToEnd}
use Rattle.osc_ends.proofs.Transfers.{gains_more}
use Rattle.osc_ends.proofs.whole.write_whole.Goals as goal

pub loop-at-preserved : goal.loop-at-preserved
loop-at-preserved g c =
    let adds = subst (λ piece. AddsToEnd (g.O.Sink.held c.loop-at.out) (g.O.Sink.held c.write.new.self) (Took c.in-Took.count) piece)
    (take_rest c.args.bytes.now c.loop-at.at) c.in-Took.ensures.bytes in
    record {
      within = omega (arith, c.in-Took.ensures.within, length-drop c.loop-at.at c.args.bytes.now);
      gained = gains_more _ _ _ c.args.bytes.now c.loop-at.at c.in-Took.count c.loop-at.invariant.gained adds;
      steady = c.in-Took.ensures.cause ∙ c.loop-at.invariant.steady;
    }
