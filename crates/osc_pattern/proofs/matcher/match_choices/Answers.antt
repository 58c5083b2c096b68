use Rattle.std.proofs.Common.{◌&&◌, length, sym, ap, ◌∙◌}
use Rattle.osc_pattern.specs.Views.{is_place_of}
use Rattle.osc_pattern.specs.Reading.{match_part}
use Rattle.osc_pattern.proofs.Reaches.{any_rest-none, any_rest-end}
use Rattle.osc_pattern.proofs.matcher.match_choices.Goals as goal

pub returns-then-is_empty-clause-value : goal.returns-then-is_empty-clause-value
returns-then-is_empty-clause-value g c =
    sym (any_rest-none (match_part c.loop-part.part.now) (is_place_of c.loop-part.reached) (c.is_empty.ensures c.if-is_empty.true) 0 c.args.name.now)
    ∙ c.loop-part.invariant.0

pub returns-then-is_empty-2-clause-value : goal.returns-then-is_empty-2-clause-value
returns-then-is_empty-2-clause-value g c =
    let places = is_place_of c.loop-part.reached in
    let name = c.args.name.now in
    let end = any_rest-end c.loop-part.part.now places name c.in_default.ensures.value in
    let empty = sym c.is_empty-in_default.ensures ∙ c.if-is_empty-2.true in
    c.has.ensures ∙ sym (end ∙ ap (λ t. t && places (length name)) empty) ∙ c.loop-part.invariant.0

pub returns-else-is_empty-2-clause-value : goal.returns-else-is_empty-2-clause-value
returns-else-is_empty-2-clause-value g c =
    let places = is_place_of c.loop-part.reached in
    let name = c.args.name.now in
    let end = any_rest-end c.loop-part.part.now places name c.in_default.ensures.value in
    let filled = sym c.is_empty-in_default.ensures ∙ c.if-is_empty-2.false in
    c.if-is_empty-2.false ∙ sym (end ∙ ap (λ t. t && places (length name)) filled) ∙ c.loop-part.invariant.0
