use Rattle.std.proofs.Common.{◌∙◌, arith}
use Rattle.osc_pattern.proofs.Moves.{idle_rest}
use Rattle.osc_pattern.proofs.matcher.without_idle.Goals as goal

pub loop-rest-preserved : goal.loop-rest-preserved
loop-rest-preserved c =
    let rest = c.loop-rest.rest.now in (
      λ name. idle_rest rest c.idle_bytes-idle.result name c.idle_bytes-idle.ensures.value ∙ c.loop-rest.invariant.0 name,
      omega (arith, c.loop-rest.invariant.1, c.idle_bytes-idle.ensures.within),
    )
