use Rattle.std.proofs.Common.{◌≡◌, List, length, insert, Some, sym, ap, subst, ◌∙◌, arith, vec_capacity}
use Rattle.osc_tree.specs.declared.registered.Registered.{Registered}
use Rattle.osc_tree.specs.Registry.{Registry, IsNewId}
use Rattle.osc_tree.specs.Nodes.{new_nodes}
use Rattle.osc_tree.specs.Adding.{IsAddable, IsRefused, refusal_of, add_refusal}
use Rattle.osc_tree.specs.Order.{IsSearched}
use Rattle.osc_tree.specs.Views.{method_of, methods_of, methods_at}
use Rattle.std.proofs.lemmas.List.{length-map}
use Rattle.osc_tree.proofs.Depths.{one_more_depth}
use Rattle.osc_tree.proofs.InOrder.{order_length, one_more_ordered}
use Rattle.osc_tree.proofs.Lines.{not_addable}
use Rattle.osc_tree.proofs.Lawful.{one_more_kept, kept_lawful}
use Rattle.osc_tree.proofs.tree.Tree.add.Goals as goal

pub returns-in-Err-clause-refused : goal.returns-in-Err-clause-refused
returns-in-Err-clause-refused c =
    subst (λ (tree : Registry). IsRefused tree c.args.address c.in-Err.refusal) c.self.view_is
    (subst (λ (l : List Registered). IsRefused
    (record { methods = methods_of l; method_limit = c.self.inside.method_limit; node_limit = c.self.inside.node_limit }) c.args.address c.in-Err.refusal)
    c.deref.ensures.value c.in-Err.ensures.refused)

pub returns-in-Err-clause-accepted : goal.returns-in-Err-clause-accepted
returns-in-Err-clause-accepted c =
    (λ clash. absurd (cc), λ can. absurd (not_addable c.args.self.now c.args.address c.in-Err.refusal (returns-in-Err-clause-refused c) can))

pub returns-in-Err-clause-read : goal.returns-in-Err-clause-read
returns-in-Err-clause-read c =
    ap (λ tree. add_refusal tree c.args.address) (sym c.self.view_is)
    ∙ ap (λ l. add_refusal (record { methods = methods_of l; method_limit = c.self.inside.method_limit; node_limit = c.self.inside.node_limit }) c.args.address)
    (sym c.deref.ensures.value)
    ∙ c.in-Err.ensures.read

pub returns-in-Err-clause-test : goal.returns-in-Err-clause-test
returns-in-Err-clause-test c = (
  λ clash. absurd (cc),
  λ none. let read : add_refusal c.args.self.now c.args.address ≡ Some (refusal_of c.in-Err.refusal) = returns-in-Err-clause-read c in
      cc,
)

pub enter-requires-clause-room : goal.enter-requires-clause-room
enter-requires-clause-room c =
    let inside = c.self.inside in
    let can = subst
    (λ (l : List Registered). IsAddable (record { methods = methods_of l; method_limit = inside.method_limit; node_limit = inside.node_limit })
    c.args.address) c.deref.ensures.value c.in-Ok.ensures.accepted in
    let few = can.method_room in
    let room = c.self.invariant.room in
    omega (arith, order_length inside.methods.items inside.places.items c.self.invariant.order, length-map inside.methods.items method_of)

pub invariant_of-self : goal.invariant_of-self
invariant_of-self c =
    let inside = c.self.inside in
    let registered = inside.methods.items in
    let places = inside.places.items in
    let one : Registered = record { id = c.args.id; address = c.args.address } in
    let at = c.in-Ok.admission.at in
    let need : c.in-Ok.admission.need ≡ new_nodes (methods_of registered) c.args.address =
    c.in-Ok.ensures.need ∙ ap (λ l. new_nodes (methods_of l) c.args.address) c.deref.ensures.value in
    let can : IsAddable (record { methods = methods_of registered; method_limit = inside.method_limit; node_limit = inside.node_limit }) c.args.address =
    subst (λ (l : List Registered). IsAddable (record { methods = methods_of l; method_limit = inside.method_limit; node_limit = inside.node_limit })
    c.args.address) c.deref.ensures.value c.in-Ok.ensures.accepted in
    let so : IsSearched c.args.address (methods_at registered places) at at =
    subst (λ l. IsSearched c.args.address (methods_at registered l) at at) c.deref-2.ensures.value
    (subst (λ (l : List Registered). IsSearched c.args.address (methods_at l c.deref-2.result.now) at at) c.deref.ensures.value c.in-Ok.ensures.at) in
    let new : IsNewId (methods_of registered) c.args.id = subst (λ (tree : Registry). IsNewId tree.methods c.args.id) (sym c.self.view_is) c.requires in
    let last : c.len-place.result ≡ length registered = omega (arith, c.len-place.ensures, c.deref.ensures.len, ap length c.deref.ensures.value) in
    let entered : c.enter.new.places.items ≡ insert places at (length registered) =
    c.enter.ensures.items ∙ ap (insert places at) last in
    record {
      kept = rw (c.in-Ok-push.ensures.items, need)
          (one_more_kept registered c.args.id c.args.address inside.method_limit inside.node_limit inside.node_count (vec_capacity inside.methods)
          (vec_capacity c.push.new.self) c.self.invariant.kept new can.apart c.in-Ok.ensures.lawful can.method_room can.node_room
          c.in-Ok-push.ensures.capacity);
      order = rw (c.in-Ok-push.ensures.items, entered)
          (one_more_ordered registered one places at c.self.invariant.order can.apart.none_at so);
      room = (let room = c.self.invariant.room in omega (arith, c.enter.ensures.capacity));
      deep = (let few = c.self.invariant.deep.few in
          rw (c.in-Ok-push.ensures.items)
          (one_more_depth registered c.args.id c.args.address inside.depth c.max-self-inside.result c.self.invariant.deep
          (omega (arith, c.max-self-inside.ensures))
          (omega (arith, c.max-self-inside.ensures, c.count_levels.ensures.count)) (omega (arith, c.max-self-inside.ensures, c.count_levels.ensures.few))));
    }

pub returns-clause-lawful : goal.returns-clause-lawful
returns-clause-lawful c = let kept = (invariant_of-self c).kept in kept_lawful _ _ (vec_capacity c.push.new.self) kept
