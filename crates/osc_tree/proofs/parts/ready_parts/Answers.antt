use Rattle.std.proofs.Common.{◌∙◌, arith}
use Rattle.std.proofs.lemmas.List.{length-set}
use Rattle.osc_pattern.specs.Patterns.{part_at}
use Rattle.osc_pattern.specs.ReadyParts.{StandsFor}
use Rattle.osc_tree.proofs.Tables.{filled-next, stands}
use Rattle.osc_tree.proofs.parts.ready_parts.Goals as goal

pub loop-place-preserved : goal.loop-place-preserved
loop-place-preserved c =
    let found = c.loop-place.found in
    let place = c.loop-place.place in
    let size = c.loop-place.invariant.0 in (
      length-set found place c.part.result ∙ size,
      filled-next (λ place part. StandsFor part (part_at c.args.pattern.now place)) found place c.part.result (omega (arith, c.requires.few))
          (stands c.part.result _ (part_at c.args.pattern.now place) c.part.ensures.items c.part.ensures.rest
          (c.requires.read place _ (omega (arith, c.requires.count))))
          c.loop-place.invariant.1,
    )
