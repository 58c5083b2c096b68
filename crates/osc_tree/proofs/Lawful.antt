-- Method lists stay lawful, and their nodes counted.
use Rattle.std.proofs.Common.{◌≡◌, ◌≢◌, ℕ, suc, ◌+◌, ◌-◌, ◌<◌, ◌≤◌, Bool, true, false, not, List, [], ◌∷◌, ◌++◌, length, map, filter, take, drop, get_or, refl}
use Rattle.std.proofs.Common.{sym, ap, subst, ◌∙◌, arith, length-append}
use Rattle.std.specs.List.{position_or_len, AllPairs, remove}
use Rattle.std.specs.Str.{bytes_eq}
use Rattle.std.proofs.lemmas.Slice.Eq.{bytes_eq-Decides}
use Rattle.std.proofs.lemmas.List.{append-nil, map-append, take-map, drop-map, length-map, get_or-map, map_push}
use Rattle.std.proofs.lemmas.List.Elements.{All-push, All-filter}
use Rattle.std.proofs.lemmas.List.Kept.{AllPairs-filter}
use Rattle.std.proofs.lemmas.List.Quantifiers.{all_pairs_push}
use Rattle.std.proofs.Math.Seq.{split_at}
use Rattle.std.proofs.lemmas.List.Edits.{length-remove}
use Rattle.osc_pattern.specs.Addresses.{IsAddress, is_proper_prefix}
use Rattle.osc_pattern.specs.Methods.{Method, IsMethodList, nodes}
use Rattle.osc_tree.specs.declared.registered.Registered.{Registered}
use Rattle.osc_tree.specs.Registry.{Registry, IsLawful, IsNewId, without}
use Rattle.osc_tree.specs.Nodes.{new_nodes}
use Rattle.osc_tree.specs.Adding.{IsApart, IsAddable}
use Rattle.osc_tree.specs.Views.{method_of, methods_of, IsKept}
use Rattle.osc_tree.proofs.Lists.{position-map, remove-filter}
use Rattle.osc_tree.proofs.Counts.{one_more_method}

-- an address that is apart from the others, with a new number, can stand after them
pub one_more_lawful : (methods : List Method) (id : ℕ) (address : List ℕ) → IsMethodList methods → IsNewId methods id → IsApart methods address
    → IsAddress address → IsMethodList (methods ++ record { id = id; address = address } ∷ [])
one_more_lawful methods id address list new apart spelled = record {
  ids = all_pairs_push (λ a b. a.id ≢ b.id) methods (record { id = id; address = address }) list.ids new;
  lawful = All-push (λ method. IsAddress method.address) methods (record { id = id; address = address }) list.lawful spelled;
  addresses = all_pairs_push (λ a b. a.address ≢ b.address) methods (record { id = id; address = address }) list.addresses apart.none_at;
  apart = all_pairs_push (λ a b. (is_proper_prefix a.address b.address ≡ false) × (is_proper_prefix b.address a.address ≡ false)) methods
      (record { id = id; address = address }) list.apart (λ k d below. (apart.none_above k d below, apart.none_below k d below));
}

-- some of the methods of a lawful list are a lawful list
pub some_lawful : (test : Method → Bool) (methods : List Method) → IsMethodList methods → IsMethodList (filter test methods)
some_lawful test methods list = record {
  ids = AllPairs-filter (λ a b. a.id ≢ b.id) test methods list.ids;
  lawful = All-filter test (λ method. IsAddress method.address) methods list.lawful;
  addresses = AllPairs-filter (λ a b. a.address ≢ b.address) test methods list.addresses;
  apart = AllPairs-filter (λ a b. (is_proper_prefix a.address b.address ≡ false) × (is_proper_prefix b.address a.address ≡ false)) test methods list.apart;
}

pub one_more_nodes : (methods : List Method) (method : Method) → nodes (methods ++ method ∷ []) ≡ nodes methods + new_nodes methods method.address
one_more_nodes methods method = one_more_method method methods [] ∙ ap (λ l. nodes l + new_nodes l method.address) (append-nil methods)

pub kept_lawful : (tree : Registry) (count capacity : ℕ) → IsKept tree.methods tree.method_limit tree.node_limit count capacity → IsLawful tree
kept_lawful tree count capacity kept =
    record { list = kept.list; few_methods = kept.few_methods; few_nodes = (let few = kept.few_nodes in let is = kept.counted in omega arith) }

-- one more method, in room that is there
pub one_more_kept : (registered : List Registered) (id : ℕ) (address : List ℕ) (method_limit node_limit count capacity more : ℕ)
    → IsKept (methods_of registered) method_limit node_limit count capacity → IsNewId (methods_of registered) id → IsApart (methods_of registered) address
    → IsAddress address
    → length (methods_of registered) < method_limit → new_nodes (methods_of registered) address ≤ node_limit - nodes (methods_of registered) → capacity ≤ more
    → IsKept (methods_of (registered ++ record { id = id; address = address } ∷ [])) method_limit node_limit
    (count + new_nodes (methods_of registered) address) more
one_more_kept registered id address method_limit node_limit count capacity more kept new apart spelled room enough stays =
    let list = kept.list in
    let counted = kept.counted in
    let few = kept.few_nodes in
    let reserved = kept.reserved in
    let method : Method = record { id = id; address = address } in
    subst (λ (l : List Method). IsKept l method_limit node_limit (count + new_nodes (methods_of registered) address) more)
    (sym (map_push method_of registered (record { id = id; address = address })))
    (record {
      list = one_more_lawful (methods_of registered) id address list new apart spelled;
      few_methods = omega (arith, length-append (methods_of registered) (method ∷ []));
      reserved = omega arith;
      counted = omega (arith, one_more_nodes (methods_of registered) method);
      few_nodes = omega arith;
    })

pub map-remove : {X Y : Type 0} (view : X → Y) (xs : List X) (place : ℕ) → map view (remove xs place) ≡ remove (map view xs) place
map-remove view xs place = map-append view (take place xs) (drop (suc place) xs) ∙ ap (λ l. l ++ map view (drop (suc place) xs)) (sym (take-map view place xs))
    ∙ ap (λ l. take place (map view xs) ++ l) (sym (drop-map view (suc place) xs))

-- no two methods of a lawful list have one address
pub once : (methods : List Method) (address : List ℕ) → IsMethodList methods
    → AllPairs (λ a b. bytes_eq a.address address ≡ true → bytes_eq b.address address ≡ false) methods
once methods address list i j d lt within is = go (bytes_eq (get_or methods j d).address address) refl where
  go : (t : Bool) → bytes_eq (get_or methods j d).address address ≡ t → t ≡ false
  go true also =
      absurd (list.addresses i j d lt within
      ((bytes_eq-Decides (get_or methods i d).address address).0 is ∙ sym ((bytes_eq-Decides (get_or methods j d).address address).0 also)))
  go false other = refl

-- the code removes the one that has the address
pub removed_is : (registered : List Registered) (place : ℕ) (address : List ℕ) → IsMethodList (methods_of registered)
    → place ≡ position_or_len (λ method. bytes_eq method.address address) registered → place < length registered
    → methods_of (remove registered place) ≡ without (methods_of registered) address
removed_is registered place address list is within =
    let same : place ≡ position_or_len (λ method. bytes_eq method.address address) (methods_of registered) =
    is ∙ sym (position-map method_of (λ method. bytes_eq method.address address) registered) in
    let inside : position_or_len (λ method. bytes_eq method.address address) (methods_of registered) < length (methods_of registered) =
    omega (arith, length-map registered method_of) in
    map-remove method_of registered place ∙ ap (remove (methods_of registered)) same
    ∙ remove-filter (λ method. bytes_eq method.address address) (methods_of registered) (once (methods_of registered) address list) inside

-- the nodes that are left without the method at a place
pub nodes_without : (registered : List Registered) (place : ℕ) (d : Registered) → place < length registered
    → nodes (methods_of registered) ≡ nodes (methods_of (remove registered place))
    + new_nodes (methods_of (remove registered place)) (get_or registered place d).address
nodes_without registered place d within =
    let front = take place (methods_of registered) in
    let back = drop (suc place) (methods_of registered) in
    let inside : place < length (methods_of registered) = omega (arith, length-map registered method_of) in
    ap nodes (split_at (methods_of registered) place (method_of d) inside)
    ∙ one_more_method (get_or (methods_of registered) place (method_of d)) front back
    ∙ ap (λ (method : Method). nodes (front ++ back) + new_nodes (front ++ back) method.address) (get_or-map method_of registered place d (method_of d) within)
    ∙ ap (λ (l : List Method). nodes l + new_nodes l (get_or registered place d).address) (sym (map-remove method_of registered place))

-- one method fewer
pub one_fewer_kept : (registered : List Registered) (place : ℕ) (d : Registered) (address : List ℕ) (method_limit node_limit count capacity : ℕ)
    → IsKept (methods_of registered) method_limit node_limit count capacity
    → place ≡ position_or_len (λ method. bytes_eq method.address address) registered → place < length registered
    → IsKept (methods_of (remove registered place)) method_limit node_limit
    (count - new_nodes (methods_of (remove registered place)) (get_or registered place d).address) capacity
one_fewer_kept registered place d address method_limit node_limit count capacity kept is within =
    let list = kept.list in
    let counted = kept.counted in
    let few = kept.few_nodes in
    let few_methods = kept.few_methods in
    let fewer = nodes_without registered place d within in
    let shorter : length (methods_of (remove registered place)) ≤ length (methods_of registered) =
    omega (arith, length-map (remove registered place) method_of, length-map registered method_of, length-remove registered place within) in
    record {
      list = subst IsMethodList (sym (removed_is registered place address list is within))
          (some_lawful (λ method. not (bytes_eq method.address address)) (methods_of registered) list);
      few_methods = omega arith;
      reserved = kept.reserved;
      counted = omega arith;
      few_nodes = omega arith;
    }

-- one more method that can be added
pub added_lawful : (tree : Registry) (id : ℕ) (address : List ℕ) → IsLawful tree → IsNewId tree.methods id → IsAddress address → IsAddable tree address
    → IsLawful (record tree { methods = tree.methods ++ record { id = id; address = address } ∷ [] })
added_lawful tree id address lawful new spelled can =
    let method : Method = record { id = id; address = address } in
    let room = can.method_room in
    let enough = can.node_room in
    let few = lawful.few_nodes in
    record {
      list = one_more_lawful tree.methods id address lawful.list new can.apart spelled;
      few_methods = omega (arith, length-append tree.methods (method ∷ []));
      few_nodes = omega (arith, one_more_nodes tree.methods method);
    }
