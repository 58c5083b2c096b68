use Rattle.std.proofs.Common.{◌≡◌, true, [], rules, filter, map, take, drop, ◌-◌, ap, sym, subst, ◌∙◌, arith}
use Rattle.std.specs.List.{before_first}
use Rattle.osc_pattern.specs.Methods.{Method}
use Rattle.osc_pattern.specs.Patterns.{begins_with_slash, is_special, matches}
use Rattle.osc_tree.proofs.Bounds.{no_ids}
use Rattle.osc_tree.proofs.InOrder.{found_is}
use Rattle.osc_tree.specs.Views.{methods_of, methods_at}
use Rattle.osc_tree.proofs.Fronts.{front_cut, near_front}
use Rattle.osc_tree.proofs.Apart.{near_sorted, near_steps}
use Rattle.osc_tree.proofs.Literals.{front_found}
use Rattle.osc_tree.proofs.matches.look_up.Goals as goal

pub walk_near-requires-clause-sorted : goal.walk_near-requires-clause-sorted
walk_near-requires-clause-sorted g c =
    near_sorted (take c.in-Some.end c.bytes-text.result.now) c.args.methods.now c.args.places.now c.beginning_with-near.result.now c.requires.list
    c.requires.order c.beginning_with-near.ensures.those

pub returns-else-parts-hints-clause-ids : goal.returns-else-parts-hints-clause-ids
returns-else-parts-hints-clause-ids g c =
    let pattern = c.args.pattern.now in
    let text = take c.in-Some.end c.bytes-text.result.now in
    let slash : begins_with_slash pattern ≡ true = subst (λ l. begins_with_slash l ≡ true) c.bytes-text.ensures.value c.bytes-text.ensures.lawful.slash in
    let front : text ≡ before_first is_special pattern =
    front_found c.bytes-text.result.now c.in-Some.end (sym c.first_special.ensures ∙ c.in-Some.is)
    ∙ ap (before_first is_special) c.bytes-text.ensures.value in
    c.walk_near.ensures.ids
    ∙ ap (λ l. map (λ (method : Method). method.id) (filter (λ method. matches pattern method.address) l)) c.beginning_with-near.ensures.those
    ∙ ap (map (λ (method : Method). method.id)) (found_is pattern text c.args.methods.now c.args.places.now c.requires.list c.requires.order slash front)

pub returns-else-parts-hints-clause-bounded : goal.returns-else-parts-hints-clause-bounded
returns-else-parts-hints-clause-bounded g c =
    let most = near_steps c.args.pattern.now (take c.in-Some.end c.bytes-text.result.now) c.args.methods.now c.args.places.now
    c.beginning_with-near.result.now c.requires.order c.beginning_with-near.ensures.those in
    omega (arith, c.walk_near.ensures.bounded)

pub returns-then-parts-hints-clause-ids : goal.returns-then-parts-hints-clause-ids
returns-then-parts-hints-clause-ids g c =
    let empty : c.add_choice.new.ids.items ≡ [] = search rules in
    empty ∙ sym (no_ids c.args.pattern.now c.args.hints.depth (methods_of c.args.methods.now) c.requires.depth (omega (arith, c.parts-parts.ensures.parts)))

pub walk_near-requires-clause-front : goal.walk_near-requires-clause-front
walk_near-requires-clause-front g c =
    let text = c.bytes-text.result.now in
    let cut = front_cut text c.in-Some.end c.bytes-text.ensures.lawful.slash (sym c.first_special.ensures ∙ c.in-Some.is) in
    near_front (take c.in-Some.end text) (take (c.in-Some.end - 1) (drop 1 text)) c.whole_names-front.result.names c.whole_names-front.result.bytes
    (methods_at c.args.methods.now c.args.places.now) (methods_at c.args.methods.now c.beginning_with-near.result.now)
    c.beginning_with-near.ensures.those cut.0 cut.1 c.whole_names-front.ensures
