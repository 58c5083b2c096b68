use Rattle.std.proofs.Common.{◌≡◌, length, take, map, filter, sym, ap, subst, ◌∙◌, arith}
use Rattle.std.proofs.lemmas.List.{nil_from_length, take_rest}
use Rattle.osc_pattern.specs.Methods.{Method}
use Rattle.osc_tree.specs.Choosing.{IsPlainStar}
use Rattle.osc_tree.specs.Order.{is_flat}
use Rattle.osc_tree.specs.Views.{methods_at}
use Rattle.osc_tree.proofs.Apart.{near_sorted}
use Rattle.osc_tree.proofs.Flats.{front_long, star_ids}
use Rattle.osc_tree.proofs.flat.add_flat.Goals as goal

pub add_near-requires-clause-sorted : goal.add_near-requires-clause-sorted
add_near-requires-clause-sorted c =
    near_sorted (take c.args.end c.bytes-text.result.now) c.args.methods.now c.args.places.now c.beginning_with-near.result.now c.requires.list
    c.requires.order c.beginning_with-near.ensures.those

pub add_near-requires-clause-long : goal.add_near-requires-clause-long
add_near-requires-clause-long c =
    front_long c.args.pattern.now c.bytes-text.result.now c.args.end (methods_at c.args.methods.now c.args.places.now)
    (methods_at c.args.methods.now c.beginning_with-near.result.now) c.bytes-text.ensures.value c.requires.special c.beginning_with-near.ensures.those

pub add_near-requires-else-is_empty-clause-sorted : goal.add_near-requires-else-is_empty-clause-sorted
add_near-requires-else-is_empty-clause-sorted c =
    near_sorted (take c.args.end c.bytes-text.result.now) c.args.methods.now c.args.places.now c.beginning_with-near.result.now c.requires.list
    c.requires.order c.beginning_with-near.ensures.those

pub add_near-requires-else-is_empty-clause-long : goal.add_near-requires-else-is_empty-clause-long
add_near-requires-else-is_empty-clause-long c =
    front_long c.args.pattern.now c.bytes-text.result.now c.args.end (methods_at c.args.methods.now c.args.places.now)
    (methods_at c.args.methods.now c.beginning_with-near.result.now) c.bytes-text.ensures.value c.requires.special c.beginning_with-near.ensures.those

pub returns-then-is_empty-clause-ids : goal.returns-then-is_empty-clause-ids
returns-then-is_empty-clause-ids c =
    let bytes = c.bytes-text.result.now in
    let empty : length c.in-Some.tail.now ≡ 0 = grind (arith, c.if-is_empty.true, c.is_empty.ensures) in
    c.add_near.ensures.ids
    ∙ ap (λ l. map (λ (method : Method). method.id)
    (filter (is_flat c.args.end l) (methods_at c.args.methods.now c.beginning_with-near.result.now))) (sym (nil_from_length c.in-Some.tail.now empty))
    ∙ star_ids c.args.pattern.now bytes c.in-Some.tail.now c.args.end c.args.methods.now c.args.places.now c.beginning_with-near.result.now c.requires.list
    c.requires.order c.bytes-text.ensures.lawful.slash c.bytes-text.ensures.value c.requires.special
    (subst (λ l. IsPlainStar l c.in-Some.tail.now) (take_rest bytes c.args.end) c.in-Some.ensures) c.beginning_with-near.ensures.those

pub returns-else-is_empty-clause-ids : goal.returns-else-is_empty-clause-ids
returns-else-is_empty-clause-ids c =
    let bytes = c.bytes-text.result.now in
    c.add_near-else-is_empty.ensures.ids
    ∙ star_ids c.args.pattern.now bytes c.in-Some.tail.now c.args.end c.args.methods.now c.args.places.now c.beginning_with-near.result.now c.requires.list
    c.requires.order c.bytes-text.ensures.lawful.slash c.bytes-text.ensures.value c.requires.special
    (subst (λ l. IsPlainStar l c.in-Some.tail.now) (take_rest bytes c.args.end) c.in-Some.ensures) c.beginning_with-near.ensures.those
