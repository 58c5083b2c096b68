use Rattle.std.proofs.Common.{◌≡◌, ◌+◌, suc, length, ap, ◌∙◌, arith}
use Rattle.std.specs.List.{list_any}
use Rattle.osc_pattern.specs.Reading.{match_part}
use Rattle.osc_pattern.specs.Repeats.{after_times}
use Rattle.osc_pattern.proofs.Reaches.{next_row}
use Rattle.osc_pattern.proofs.Repeats.{times_more}
use Rattle.osc_pattern.proofs.many.repeats.Goals as goal

pub loop-others-preserved : goal.loop-others-preserved
loop-others-preserved c =
    let times = c.loop-others.times in
    let unit = c.args.unit.now in
    let rest = c.loop-others.rest.now in
    let others = c.in-Some.others.now in
    let next : times + 1 ≡ suc times = omega arith in
    let row = next_row times (length unit) in
    let so_far = c.loop-others.invariant in (
      λ name.
          ap (λ n. list_any (match_part others) (after_times n unit name)) next
          ∙ times_more times unit rest others c.in-Some.ensures.same name
          ∙ so_far.0 name,
      omega (arith, row, c.in-Some.ensures.size),
      omega (arith, c.in-Some.ensures.shorter),
    )
