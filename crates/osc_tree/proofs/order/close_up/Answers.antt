use Rattle.std.proofs.Common.{◌≡◌, ◌<◌, length, set, get_or, ap, ◌∙◌, arith}
use Rattle.std.proofs.lemmas.List.Edits.{map_over_more}
use Rattle.osc_tree.specs.Order.{closed_up}
use Rattle.osc_tree.proofs.Places.{not_yet, any_default}
use Rattle.osc_tree.proofs.order.close_up.Goals as goal

pub loop-other-preserved : goal.loop-other-preserved
loop-other-preserved c =
    let places = c.args.places.now.items in
    let i = c.loop-other.other-index in
    let other = get_or c.loop-other.other-items i 0 in
    let inside : i < length places = omega (arith, ap length c.deref_mut-other-items.ensures.value) in
    let same : other ≡ get_or places i 0 = ap (λ l. get_or l i 0) c.loop-other.invariant ∙ not_yet _ places i 0 inside in
    let within_items : i < length c.loop-other.other-items = omega arith in
    ap (set c.loop-other.other-items i) c.closed_up.ensures
    ∙ map_over_more (closed_up c.args.place) places c.loop-other.other-items i other inside c.loop-other.invariant
    (any_default c.loop-other.other-items i 0 other within_items)
