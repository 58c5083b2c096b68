use Rattle.std.proofs.Common.{arith, sym, ◌∙◌}
use Rattle.osc_tree.proofs.Advances.{plain_more, none_of}
use Rattle.osc_tree.proofs.matches.count_wild.Goals as goal

pub loop-wild-preserved : goal.loop-wild-preserved
loop-wild-preserved c =
    let bound = c.loop-wild.invariant.bound in
    record {
      bound = omega arith;
      plain = plain_more c.args.pattern.now c.part.result.now c.loop-wild.wild c.loop-wild-test.true bound c.part.ensures
          (sym c.first_special.ensures ∙ none_of c.first_special.result (sym c.is_some.ensures ∙ c.if-is_some.false)) c.loop-wild.invariant.plain;
    }
