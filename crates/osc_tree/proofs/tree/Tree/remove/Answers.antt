use Rattle.std.proofs.Common.{◌≡◌, ℕ, List, map, get_or, Some, None, refl, sym, ap, subst, ◌∙◌, arith, vec_capacity}
use Rattle.std.specs.List.{remove}
use Rattle.osc_pattern.specs.Methods.{Method, IsMethodList}
use Rattle.osc_tree.specs.declared.registered.Registered.{Registered}
use Rattle.osc_tree.specs.Registry.{Registry, NoneAt, id_at, without}
use Rattle.osc_tree.specs.Nodes.{new_nodes}
use Rattle.osc_tree.specs.Order.{IsDepth, IsOrder, IsSearched, StandsAt, closed_up}
use Rattle.osc_tree.specs.Views.{methods_of, methods_at}
use Rattle.osc_tree.proofs.Depths.{one_fewer_depth}
use Rattle.osc_tree.proofs.Lines.{id_at-none, none-id_at, id_at-some}
use Rattle.osc_tree.proofs.Lookups.{id_at_place}
use Rattle.osc_tree.proofs.Lawful.{one_fewer_kept, removed_is, nodes_without, kept_lawful}
use Rattle.osc_tree.proofs.Leaving.{Leaves, leaves_at, IsLeft, left_is}
use Rattle.osc_tree.proofs.Places.{method_at-get}
use Rattle.osc_tree.proofs.tree.Tree.remove.Goals as goal

-- what the calls were told, of lists that are those of the tree
record IsTold (registered : List Registered) (places : List ℕ) (at : ℕ) (address : List ℕ) : Type 0 where
  stands : StandsAt registered places at address
  searched : IsSearched address (methods_at registered places) at at

told_is : (registered a b : List Registered) (places p q : List ℕ) (at : ℕ) (address x y : List ℕ) → a ≡ registered → p ≡ places → x ≡ address
    → b ≡ registered → q ≡ places → y ≡ address → IsSearched x (methods_at a p) at at → StandsAt b q at y → IsTold registered places at address
told_is registered a b places p q at address x y e f g h i j so stands = record {
  stands = subst (StandsAt registered places at) j
      (subst (λ l. StandsAt registered l at y) i (subst (λ (l : List Registered). StandsAt l q at y) h stands));
  searched = subst (λ l. IsSearched l (methods_at registered places) at at) g
      (subst (λ l. IsSearched x (methods_at registered l) at at) f (subst (λ (l : List Registered). IsSearched x (methods_at l p) at at) e so));
}

-- what holds once the method there is taken out, with its place
record IsOut (registered : List Registered) (place at : ℕ) (address : List ℕ) (method : Registered) (rest : List Registered)
    (moved : List ℕ) : Type 0 where
  leaves : Leaves registered place address
  own : method ≡ get_or registered place method
  items : rest ≡ remove registered place
  left : IsLeft rest moved at method.address
  id : id_at (methods_of registered) address ≡ Some method.id

out_is : (registered : List Registered) (places : List ℕ) (place at : ℕ) (address : List ℕ) (method : Registered) (rest : List Registered) (moved : List ℕ)
    → IsMethodList (methods_of registered) → IsOrder registered places → IsTold registered places at address → place ≡ get_or places at 0
    → method ≡ get_or registered place method → rest ≡ remove registered place → moved ≡ map (closed_up place) (remove places at)
    → IsOut registered place at address method rest moved
out_is registered places place at address method rest moved list order told e own items closed =
    let first = get_or places at 0 in
    let leaves = leaves_at registered places at address list order told.stands in
    let same : get_or registered first method ≡ method = ap (λ (k : ℕ). get_or registered k method) (sym e) ∙ sym own in
    let named : address ≡ method.address =
    sym told.stands.1 ∙ ap (λ (m : Method). m.address) (method_at-get registered first method leaves.within) ∙ ap (λ (m : Registered). m.address) same in
    record {
      leaves = subst (λ (k : ℕ). Leaves registered k address) (sym e) leaves;
      own = own;
      items = items;
      left = subst (λ (l : List Registered). IsLeft l moved at method.address) (sym (items ∙ ap (remove registered) e))
          (subst (λ l. IsLeft (remove registered first) l at method.address) (sym (closed ∙ ap (λ (k : ℕ). map (closed_up k) (remove places at)) e))
          (subst (IsLeft (remove registered first) (map (closed_up first) (remove places at)) at) named
          (left_is registered places at address method list order told.stands told.searched)));
      id = id_at_place registered places at address method list order told.stands ∙ ap (λ (m : Registered). Some m.id) same;
    }

same_left : (a b : List Registered) (p q : List ℕ) (at : ℕ) (address : List ℕ) → b ≡ a → q ≡ p → IsLeft a p at address → IsLeft b q at address
same_left a b p q at address e f left =
    subst (λ l. IsLeft b l at address) (sym f) (subst (λ (l : List Registered). IsLeft l p at address) (sym e) left)

pub returns-then-not-is_there-clause-read : goal.returns-then-not-is_there-clause-read
returns-then-not-is_there-clause-read c =
    let none : NoneAt (methods_of c.self.inside.methods.items) c.args.address.now =
    subst (NoneAt (methods_of c.self.inside.methods.items)) c.bytes-2.ensures.value
    (subst (λ (l : List Registered). NoneAt (methods_of l) c.bytes-2.result.now) c.deref-3.ensures.value c.if-not-is_there.ensures) in
    sym (ap (λ tree. id_at tree.methods c.args.address.now) (sym c.self.view_is)
    ∙ none-id_at (methods_of c.self.inside.methods.items) c.args.address.now none)

pub returns-then-not-is_there-clause-not_there : goal.returns-then-not-is_there-clause-not_there
returns-then-not-is_there-clause-not_there c =
    (λ _. id_at-none c.args.self.now.methods c.args.address.now (sym (returns-then-not-is_there-clause-read c)), λ _. refl)

pub new_nodes-requires : goal.new_nodes-requires
new_nodes-requires c =
    let registered = c.self.inside.methods.items in
    let places = c.self.inside.places.items in
    let at = c.count_before-at.result in
    let told = told_is registered c.deref.result.now c.deref-3.result.now places c.deref-2.result.now c.deref-4.result.now at c.args.address.now
    c.bytes.result.now c.bytes-2.result.now c.deref.ensures.value c.deref-2.ensures.value c.bytes.ensures.value
    c.deref-3.ensures.value c.deref-4.ensures.value c.bytes-2.ensures.value c.count_before-at.ensures.searched c.if-not-is_there.ensures in
    let place = c.leave-place.result in
    let method = c.remove-method.result in
    let out = out_is registered places place at c.args.address.now method c.remove-method.new.self.items c.leave-place.new.places.items
    c.self.invariant.kept.list c.self.invariant.order told c.leave-place.ensures.place c.remove-method.ensures.value
    c.remove-method.ensures.items c.leave-place.ensures.items in
    let left = same_left c.remove-method.new.self.items c.deref-5.result.now c.leave-place.new.places.items c.deref-6.result.now at method.address
    c.deref-5.ensures.value c.deref-6.ensures.value out.left in
    record { list = left.list; order = left.order; apart = left.apart; searched = left.searched }

pub overflow_sub-self : goal.overflow_sub-self
overflow_sub-self c =
    let registered = c.self.inside.methods.items in
    let places = c.self.inside.places.items in
    let at = c.count_before-at.result in
    let told = told_is registered c.deref.result.now c.deref-3.result.now places c.deref-2.result.now c.deref-4.result.now at c.args.address.now
    c.bytes.result.now c.bytes-2.result.now c.deref.ensures.value c.deref-2.ensures.value c.bytes.ensures.value
    c.deref-3.ensures.value c.deref-4.ensures.value c.bytes-2.ensures.value c.count_before-at.ensures.searched c.if-not-is_there.ensures in
    let place = c.leave-place.result in
    let method = c.remove-method.result in
    let out = out_is registered places place at c.args.address.now method c.remove-method.new.self.items c.leave-place.new.places.items
    c.self.invariant.kept.list c.self.invariant.order told c.leave-place.ensures.place c.remove-method.ensures.value
    c.remove-method.ensures.items c.leave-place.ensures.items in
    let more : c.new_nodes.result ≡ new_nodes (methods_of (remove registered place)) (get_or registered place method).address =
    c.new_nodes.ensures ∙ ap (λ l. new_nodes (methods_of l) method.address) (c.deref-5.ensures.value ∙ out.items)
    ∙ ap (λ (m : Registered). new_nodes (methods_of (remove registered place)) m.address) out.own in
    let counted = c.self.invariant.kept.counted in
    omega (arith, nodes_without registered place method out.leaves.within)

pub depth_left-self-inside-requires : goal.depth_left-self-inside-requires
depth_left-self-inside-requires c =
    let registered = c.self.inside.methods.items in
    let places = c.self.inside.places.items in
    let at = c.count_before-at.result in
    let told = told_is registered c.deref.result.now c.deref-3.result.now places c.deref-2.result.now c.deref-4.result.now at c.args.address.now
    c.bytes.result.now c.bytes-2.result.now c.deref.ensures.value c.deref-2.ensures.value c.bytes.ensures.value
    c.deref-3.ensures.value c.deref-4.ensures.value c.bytes-2.ensures.value c.count_before-at.ensures.searched c.if-not-is_there.ensures in
    let place = c.leave-place.result in
    let method = c.remove-method.result in
    let out = out_is registered places place at c.args.address.now method c.remove-method.new.self.items c.leave-place.new.places.items
    c.self.invariant.kept.list c.self.invariant.order told c.leave-place.ensures.place c.remove-method.ensures.value
    c.remove-method.ensures.items c.leave-place.ensures.items in
    subst (λ (l : List Registered). IsDepth (methods_of l) c.self.inside.depth) (sym (c.deref-7.ensures.value ∙ out.items))
    (one_fewer_depth registered place c.self.inside.depth c.self.invariant.deep)

pub invariant_of-self : goal.invariant_of-self
invariant_of-self c =
    let registered = c.self.inside.methods.items in
    let places = c.self.inside.places.items in
    let at = c.count_before-at.result in
    let told = told_is registered c.deref.result.now c.deref-3.result.now places c.deref-2.result.now c.deref-4.result.now at c.args.address.now
    c.bytes.result.now c.bytes-2.result.now c.deref.ensures.value c.deref-2.ensures.value c.bytes.ensures.value
    c.deref-3.ensures.value c.deref-4.ensures.value c.bytes-2.ensures.value c.count_before-at.ensures.searched c.if-not-is_there.ensures in
    let place = c.leave-place.result in
    let method = c.remove-method.result in
    let out = out_is registered places place at c.args.address.now method c.remove-method.new.self.items c.leave-place.new.places.items
    c.self.invariant.kept.list c.self.invariant.order told c.leave-place.ensures.place c.remove-method.ensures.value
    c.remove-method.ensures.items c.leave-place.ensures.items in
    let more : c.new_nodes.result ≡ new_nodes (methods_of (remove registered place)) (get_or registered place method).address =
    c.new_nodes.ensures ∙ ap (λ l. new_nodes (methods_of l) method.address) (c.deref-5.ensures.value ∙ out.items)
    ∙ ap (λ (m : Registered). new_nodes (methods_of (remove registered place)) m.address) out.own in
    let inside = c.self.inside in
    record {
      kept = rw (out.items, more, c.remove-method.ensures.capacity)
          (one_fewer_kept registered place method c.args.address.now inside.method_limit inside.node_limit inside.node_count
          (vec_capacity inside.methods) c.self.invariant.kept out.leaves.first out.leaves.within);
      order = out.left.order;
      room = rw c.leave-place.ensures.capacity c.self.invariant.room;
      deep = subst (λ (l : List Registered). IsDepth (methods_of l) c.depth_left-self-inside.result) c.deref-7.ensures.value
          c.depth_left-self-inside.ensures.deep;
    }

pub returns-clause-read : goal.returns-clause-read
returns-clause-read c =
    let registered = c.self.inside.methods.items in
    let places = c.self.inside.places.items in
    let at = c.count_before-at.result in
    let told = told_is registered c.deref.result.now c.deref-3.result.now places c.deref-2.result.now c.deref-4.result.now at c.args.address.now
    c.bytes.result.now c.bytes-2.result.now c.deref.ensures.value c.deref-2.ensures.value c.bytes.ensures.value
    c.deref-3.ensures.value c.deref-4.ensures.value c.bytes-2.ensures.value c.count_before-at.ensures.searched c.if-not-is_there.ensures in
    let place = c.leave-place.result in
    let method = c.remove-method.result in
    let out = out_is registered places place at c.args.address.now method c.remove-method.new.self.items c.leave-place.new.places.items
    c.self.invariant.kept.list c.self.invariant.order told c.leave-place.ensures.place c.remove-method.ensures.value
    c.remove-method.ensures.items c.leave-place.ensures.items in
    sym (ap (λ tree. id_at tree.methods c.args.address.now) (sym c.self.view_is) ∙ out.id)

pub returns-clause-not_there : goal.returns-clause-not_there
returns-clause-not_there c = (
  λ clash. absurd (cc),
  λ none.
      absurd (let clash : Some c.remove-method.result.id ≡ None = returns-clause-read c ∙ none-id_at c.args.self.now.methods c.args.address.now none in cc),
)

pub returns-clause-removed : goal.returns-clause-removed
returns-clause-removed c =
    id_at-some c.args.self.now.methods c.args.address.now c.remove-method.result.id (sym (returns-clause-read c))

pub returns-clause-others : goal.returns-clause-others
returns-clause-others c =
    let registered = c.self.inside.methods.items in
    let places = c.self.inside.places.items in
    let at = c.count_before-at.result in
    let told = told_is registered c.deref.result.now c.deref-3.result.now places c.deref-2.result.now c.deref-4.result.now at c.args.address.now
    c.bytes.result.now c.bytes-2.result.now c.deref.ensures.value c.deref-2.ensures.value c.bytes.ensures.value
    c.deref-3.ensures.value c.deref-4.ensures.value c.bytes-2.ensures.value c.count_before-at.ensures.searched c.if-not-is_there.ensures in
    let place = c.leave-place.result in
    let method = c.remove-method.result in
    let out = out_is registered places place at c.args.address.now method c.remove-method.new.self.items c.leave-place.new.places.items
    c.self.invariant.kept.list c.self.invariant.order told c.leave-place.ensures.place c.remove-method.ensures.value
    c.remove-method.ensures.items c.leave-place.ensures.items in
    let inside = c.self.inside in
    let others : methods_of c.remove-method.new.self.items ≡ without (methods_of registered) c.args.address.now =
    ap methods_of out.items ∙ removed_is registered place c.args.address.now c.self.invariant.kept.list out.leaves.first out.leaves.within in
    ap (λ l. let tree : Registry = record { methods = l; method_limit = inside.method_limit; node_limit = inside.node_limit } in tree) others
    ∙ ap (λ t. let tree : Registry = record { methods = without t.methods c.args.address.now; method_limit = t.method_limit; node_limit = t.node_limit } in
    tree) c.self.view_is

pub returns-clause-lawful : goal.returns-clause-lawful
returns-clause-lawful c =
    let kept = (invariant_of-self c).kept in kept_lawful _ _ (vec_capacity c.remove-method.new.self) kept
