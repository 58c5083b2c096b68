use Rattle.std.proofs.Common.{◌-◌, ◌∷◌, length, take, drop, refl, ap, sym, ◌∙◌}
use Rattle.std.specs.List.{list_any}
use Rattle.osc_pattern.specs.Items.{star}
use Rattle.osc_pattern.specs.Cuts.{rests}
use Rattle.osc_pattern.specs.Reading.{match_part}
use Rattle.osc_pattern.specs.Views.{is_place_of, passes}
use Rattle.osc_pattern.proofs.Reaches.{any_rest-same, any_rest-item, first_and_rest}
use Rattle.osc_pattern.proofs.Moves.{star_after}
use Rattle.osc_pattern.proofs.matcher.after_first.Goals as goal

pub returns-then-first-eq42-clause-value : goal.returns-then-first-eq42-clause-value
returns-then-first-eq42-clause-value g c =
    let part = c.args.part.now in
    let name = c.args.name.now in
    let others = take (length part - 1) (drop 1 part) in
    let left = c.without_idle.result.now in
    let reached = is_place_of c.args.reached.now in
    let spelled = first_and_rest part 0 c.in-len1-up.len_at_least ∙ ap (λ b. b ∷ others) c.if-first-eq42.true in
    c.after_star.ensures.value name (match_part left) c.requires.short
    ∙ any_rest-same (λ rest. list_any (match_part left) (rests rest)) (λ rest. list_any (match_part others) (rests rest))
    (λ rest. star_after left others rest (c.without_idle.ensures.same rest)) reached 0 name
    ∙ sym (any_rest-item (42 ∷ others) star others reached name refl)
    ∙ ap (λ p. passes (match_part p) c.args.reached.now name) (sym spelled)

pub returns-clause-value : goal.returns-clause-value
returns-clause-value g c =
    let part = c.args.part.now in
    let name = c.args.name.now in
    let left = c.in_ok-next.left.now in
    let after = c.in_ok-next.ensures.value in
    any_rest-same (match_part c.without_empty.result.now) (match_part left) (λ rest. c.without_empty.ensures.same rest)
    (is_place_of c.in_ok-next.next) 0 name
    ∙ after.2 (match_part left)
    ∙ sym (any_rest-item part after.0 left (is_place_of c.args.reached.now) name after.1)
