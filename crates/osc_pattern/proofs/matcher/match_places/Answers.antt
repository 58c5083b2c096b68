use Rattle.std.proofs.Common.{◌&&◌, ◌+◌, length, sym, ap, ◌∙◌, arith}
use Rattle.std.specs.List.{list_any}
use Rattle.osc_pattern.specs.Items.{item_text}
use Rattle.osc_pattern.specs.Cuts.{after_item}
use Rattle.osc_pattern.specs.Views.{item_of, is_place_of}
use Rattle.osc_pattern.specs.Reading.{match_part}
use Rattle.osc_pattern.proofs.Reaches.{any_rest-none, any_rest-same, any_rest-item, any_rest-end, first_item-size, rows_split}
use Rattle.osc_pattern.proofs.Moves.{rows_less}
use Rattle.osc_pattern.proofs.matcher.match_places.Goals as goal

pub returns-then-is_empty-clause-value : goal.returns-then-is_empty-clause-value
returns-then-is_empty-clause-value g c =
    sym (any_rest-none (match_part c.loop-item.part.now) (is_place_of c.loop-item.reached) (c.is_empty.ensures c.if-is_empty.true) 0 c.args.name.now)
    ∙ c.loop-item.invariant.0

pub loop-item-preserved : goal.loop-item-preserved
loop-item-preserved g c =
    let item = item_of c.in-Some.item in
    let part = c.loop-item.part.now in
    let others = c.in-Some.others.now in
    let left = c.rest_after-part.result.now in
    let name = c.args.name.now in
    let found = sym c.in-Some.ensures.value in
    let more = c.places_after-reached.ensures.counted in
    let most = c.places_after-reached.ensures.bounded in
    let rows = rows_split (length name + 1) (length (item_text item)) (length others) (length part) (first_item-size part item others found) in
    let less = rows_less (length name + 1) (length left) (length others) c.rest_after-part.ensures.shorter in
    let so_far = c.loop-item.invariant in (
      c.places_after-reached.ensures.value (match_part left)
          ∙ any_rest-same (λ rest. list_any (match_part left) (after_item item rest)) (λ rest. list_any (match_part others) (after_item item rest))
          (λ rest. c.rest_after-part.ensures.same rest) (is_place_of c.loop-item.reached) 0 name
          ∙ sym (any_rest-item part item others (is_place_of c.loop-item.reached) name found)
          ∙ so_far.0,
      omega arith,
      omega arith,
    )

pub returns-then-is_empty-2-clause-value : goal.returns-then-is_empty-2-clause-value
returns-then-is_empty-2-clause-value g c =
    let places = is_place_of c.loop-item.reached in
    let name = c.args.name.now in
    let end = any_rest-end c.loop-item.part.now places name (sym c.in_default.ensures.value) in
    let empty = sym c.is_empty-2.ensures ∙ c.if-is_empty-2.true in
    c.has.ensures ∙ sym (end ∙ ap (λ t. t && places (length name)) empty) ∙ c.loop-item.invariant.0

pub returns-else-is_empty-2-clause-value : goal.returns-else-is_empty-2-clause-value
returns-else-is_empty-2-clause-value g c =
    let places = is_place_of c.loop-item.reached in
    let name = c.args.name.now in
    let end = any_rest-end c.loop-item.part.now places name (sym c.in_default.ensures.value) in
    let filled = sym c.is_empty-2.ensures ∙ c.if-is_empty-2.false in
    c.if-is_empty-2.false ∙ sym (end ∙ ap (λ t. t && places (length name)) filled) ∙ c.loop-item.invariant.0
