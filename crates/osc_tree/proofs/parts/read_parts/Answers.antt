use Rattle.std.proofs.Common.{subst, ◌∙◌, arith}
use Rattle.std.proofs.lemmas.List.{length-set}
use Rattle.osc_pattern.specs.Patterns.{part_at}
use Rattle.osc_pattern.specs.ReadyParts.{IsReadOf}
use Rattle.osc_tree.proofs.Tables.{filled-next}
use Rattle.osc_tree.proofs.parts.read_parts.Goals as goal

pub loop-place-preserved : goal.loop-place-preserved
loop-place-preserved c =
    let read = c.loop-place.read in
    let place = c.loop-place.place in
    let size = c.loop-place.invariant.0 in (
      length-set read place c.read.result ∙ size,
      filled-next (λ place part. IsReadOf part (part_at c.args.pattern.now place)) read place c.read.result (omega (arith, c.requires.few))
          (subst (IsReadOf c.read.result) c.part.ensures c.read.ensures)
          c.loop-place.invariant.1,
    )
