use Rattle.std.proofs.Common.{sym, ◌∙◌, arith}
use Rattle.osc_pattern.proofs.Moves.{empty_twice}
use Rattle.osc_pattern.proofs.matcher.without_empty.Goals as goal

pub loop-rest-preserved : goal.loop-rest-preserved
loop-rest-preserved c =
    let rest = c.loop-rest.rest.now in (
      λ name. empty_twice rest name (sym c.begins_empty.ensures.value ∙ c.loop-rest-test.true) ∙ c.loop-rest.invariant.0 name,
      omega (arith, c.loop-rest.invariant.1),
    )
