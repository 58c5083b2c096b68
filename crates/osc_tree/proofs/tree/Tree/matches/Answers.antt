use Rattle.std.proofs.Common.{ℕ, ◌≤◌, List, length, ap, ◌∙◌, arith, vec_capacity}
use Rattle.std.proofs.lemmas.List.{length-map}
use Rattle.osc_tree.specs.declared.registered.Registered.{Registered}
use Rattle.osc_tree.specs.Order.{IsIndexed}
use Rattle.osc_tree.proofs.InOrder.{order_length}
use Rattle.osc_tree.specs.Matching.{matching_ids}
use Rattle.osc_tree.specs.Views.{method_of, methods_of}
use Rattle.osc_tree.proofs.Orders.{are_hits}
use Rattle.osc_tree.proofs.tree.Tree.matches.Goals as goal

pub returns-clause-hits : goal.returns-clause-hits
returns-clause-hits g c =
    are_hits c.args.pattern.now c.args.self.now.methods c.find_ids.new.ids.items
    (c.find_ids.ensures.ids ∙ ap (λ l. matching_ids c.args.pattern.now (methods_of l)) c.deref.ensures.value
    ∙ ap (λ tree. matching_ids c.args.pattern.now tree.methods) c.self.view_is)

few_places : (registered : List Registered) (places : List ℕ) (method_limit node_limit node_count method_capacity place_capacity depth : ℕ)
    → IsIndexed registered places method_limit node_limit node_count method_capacity place_capacity depth → length places ≤ method_limit
few_places registered places method_limit node_limit node_count method_capacity place_capacity depth indexed = let few = indexed.kept.few_methods in
    omega (arith, order_length registered places indexed.order, length-map registered method_of)

pub find_ids-requires-clause-room : goal.find_ids-requires-clause-room
find_ids-requires-clause-room g c =
    let few = few_places c.self.inside.methods.items c.self.inside.places.items c.self.inside.method_limit c.self.inside.node_limit c.self.inside.node_count
    (vec_capacity c.self.inside.methods) (vec_capacity c.self.inside.places) c.self.inside.depth c.self.invariant in
    let asked = c.requires in
    let kept = c.hits.invariant in
    omega (arith, ap length c.deref-2.ensures.value, ap (λ tree. tree.method_limit) c.self.view_is, ap (λ hits. hits.limit) c.hits.view_is, kept.0, kept.1)

pub invariant_of-hits : goal.invariant_of-hits
invariant_of-hits g c =
    let few = few_places c.self.inside.methods.items c.self.inside.places.items c.self.inside.method_limit c.self.inside.node_limit c.self.inside.node_count
    (vec_capacity c.self.inside.methods) (vec_capacity c.self.inside.places) c.self.inside.depth c.self.invariant in
    let asked = c.requires in
    let kept = c.hits.invariant in (
      omega (
        arith,
        c.find_ids.ensures.len,
        ap length c.deref-2.ensures.value,
        ap (λ tree. tree.method_limit) c.self.view_is,
        ap
            (λ hits. hits.limit) c.hits.view_is,
      ),
      omega (arith, c.find_ids.ensures.capacity, kept.1),
    )
