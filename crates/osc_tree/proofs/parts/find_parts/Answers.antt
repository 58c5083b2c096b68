use Rattle.std.proofs.Common.{subst, ◌∙◌, arith}
use Rattle.std.proofs.lemmas.List.{length-set}
use Rattle.osc_pattern.specs.Patterns.{part_at}
use Rattle.osc_pattern.specs.ReadyParts.{StandsFor}
use Rattle.osc_tree.proofs.Tables.{filled-next}
use Rattle.osc_tree.proofs.parts.find_parts.Goals as goal

pub loop-place-preserved : goal.loop-place-preserved
loop-place-preserved c =
    let found = c.loop-place.found in
    let place = c.loop-place.place in
    let size = c.loop-place.invariant.0 in (
      length-set found place c.whole.result ∙ size,
      filled-next (λ place part. StandsFor part (part_at c.args.pattern.now place)) found place c.whole.result (omega (arith, c.requires.few))
          (subst (StandsFor c.whole.result) c.part.ensures c.whole.ensures)
          c.loop-place.invariant.1,
    )
