use Rattle.std.proofs.Common.{sym, ◌∙◌, arith}
use Rattle.osc_pattern.specs.Reading.{match_part}
use Rattle.osc_pattern.specs.Views.{item_of}
use Rattle.osc_pattern.proofs.Reaches.{first_item-size}
use Rattle.osc_pattern.proofs.Matches.{match_part-item}
use Rattle.osc_pattern.proofs.ready.first_ready.Goals as goal

pub returns-in-Some-first_item-clause-same : goal.returns-in-Some-first_item-clause-same
returns-in-Some-first_item-clause-same c name =
    let part = c.args.part.now in
    let others = c.in-Some-first_item.others.now in
    let found = sym c.in-Some-first_item.ensures.value in
    c.ready_item.ensures.same name (match_part c.rest_after.result.now)
    ∙ c.rest_after.ensures.same name
    ∙ sym (match_part-item part (item_of c.in-Some-first_item.item) others name found)

pub returns-in-Some-first_item-clause-size : goal.returns-in-Some-first_item-clause-size
returns-in-Some-first_item-clause-size c =
    let part = c.args.part.now in
    let others = c.in-Some-first_item.others.now in
    let size = first_item-size part (item_of c.in-Some-first_item.item) others (sym c.in-Some-first_item.ensures.value) in
    omega (arith, size, c.ready_item.ensures.size, c.rest_after.ensures.shorter)
