use Rattle.std.proofs.Common.{◌∙◌, ◌++◌, ◌+◌, ◌-◌, sym, arith}
use Rattle.osc_script.specs.Written.{written}
use Rattle.osc_script.specs.Generated.{drawn_acts}
use Rattle.osc_script.proofs.Going.{drawn_more, drawn_end}
use Rattle.osc_script.proofs.drawn_script.put_drawn.Goals as goal

pub loop-k-preserved : goal.loop-k-preserved
loop-k-preserved c = record {
  text = (λ i. c.in_ok-moment.ensures.line i
      ++ written (drawn_acts (c.args.lines - (c.loop-k._k + 1)) (c.in_ok-moment.ensures.moment i) (c.in_ok-moment.ensures.draws i)))
      ∙ drawn_more c.args.lines c.loop-k._k c.loop-k.moment c.loop-k.draws.number c.loop-k.script.items c.loop-k-test.true ∙ c.loop-k.invariant.text;
  within = omega (arith, c.in_ok-moment.ensures.within, c.loop-k.invariant.within);
}

pub returns : goal.returns
returns c =
    sym (drawn_end c.args.lines c.loop-k._k c.loop-k.moment c.loop-k.draws.number c.loop-k.script.items c.loop-k-test.false) ∙ c.loop-k.invariant.text
