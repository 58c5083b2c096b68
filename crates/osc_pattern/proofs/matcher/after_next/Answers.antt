use Rattle.std.proofs.Common.{◌+◌, length, sym, arith}
use Rattle.osc_pattern.specs.Items.{item_text}
use Rattle.osc_pattern.specs.Views.{item_of}
use Rattle.osc_pattern.proofs.Reaches.{first_item-size, rows_split}
use Rattle.osc_pattern.proofs.matcher.after_next.Goals as goal

pub returns-clause-value : goal.returns-clause-value
returns-clause-value g c = (item_of c.in_ok-item.item, sym c.in_ok-item.ensures.value, λ test. c.places_after_any-next.ensures.value test)

pub returns-clause-bounded : goal.returns-clause-bounded
returns-clause-bounded g c =
    let item = item_of c.in_ok-item.item in
    let part = c.args.part.now in
    let others = c.in_ok-item.others.now in
    let name = c.args.name.now in
    let most = c.places_after_any-next.ensures.bounded in
    let rows = rows_split (length name + 1) (length (item_text item)) (length others) (length part)
    (first_item-size part item others (sym c.in_ok-item.ensures.value)) in
    omega (arith, most, rows)

pub returns-clause-size : goal.returns-clause-size
returns-clause-size g c =
    let item = item_of c.in_ok-item.item in
    let part = c.args.part.now in
    let others = c.in_ok-item.others.now in
    let name = c.args.name.now in
    let most = c.places_after_any-next.ensures.bounded in
    let rows = rows_split (length name + 1) (length (item_text item)) (length others) (length part)
    (first_item-size part item others (sym c.in_ok-item.ensures.value)) in
    omega (arith, most, rows)
