use Rattle.std.proofs.Common.{take, sym, subst, ◌∙◌, arith}
use Rattle.std.proofs.lemmas.List.{length-set, take_more_set}
use Rattle.osc_pattern.specs.ReadyParts.{IsReady}
use Rattle.osc_pattern.proofs.ReadOnce.{ready_next}
use Rattle.osc_pattern.proofs.ready.ReadyPart.read.Goals as goal

pub loop-count-preserved : goal.loop-count-preserved
loop-count-preserved c =
    let items = c.loop-count.items in
    let count = c.loop-count.count in
    let item = c.in-Some.item in
    let part = c.loop-count.rest.now in
    let left = c.in-Some.others.now in
    let so_far = c.loop-count.invariant in (
      length-set items count item ∙ so_far.0,
      omega arith,
      subst (λ all. IsReady all left c.args.part.now) (sym (take_more_set items count item (omega (arith, so_far.0))))
          (ready_next (take count items) item part left c.args.part.now c.in-Some.ensures.same c.in-Some.ensures.size so_far.2),
    )
