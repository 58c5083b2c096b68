-- Which line refuses an address, and what that says of the methods.
use Rattle.std.proofs.Common.{◌≡◌, ◌≢◌, ℕ, ◌<◌, ◌≤◌, ◌==◌, Bool, true, false, cond, nat_lt, List, length, find, get_or, Option, Some, None, All, refl, sym, ap}
use Rattle.std.proofs.Common.{subst, ◌∙◌, arith}
use Rattle.std.specs.List.{list_any, Contains}
use Rattle.std.specs.Option.{option_map}
use Rattle.std.specs.Str.{bytes_eq}
use Rattle.std.proofs.lemmas.Bool.Decides.{nat_tests}
use Rattle.std.proofs.lemmas.Bool.{false_from_ne_true}
use Rattle.std.proofs.lemmas.Slice.Eq.{bytes_eq-Decides}
use Rattle.osc_pattern.specs.Addresses.{is_proper_prefix}
use Rattle.osc_pattern.specs.Methods.{Method, IsMethodList}
use Rattle.osc_pattern.proofs.Cutting.{All-none}
use Rattle.std.proofs.lemmas.List.{length-map, get_or-map}
use Rattle.std.proofs.lemmas.List.Sums.{position_or_len_is}
use Rattle.osc_tree.specs.declared.refusals.TreeRefusal.{TreeRefusal}
use Rattle.osc_tree.specs.declared.refusals.TreeRefusal.TheVariants.{Taken, UnderMethod, IsContainer, MethodsFull, NodesFull}
use Rattle.osc_tree.specs.declared.registered.Registered.{Registered}
use Rattle.osc_tree.specs.Registry.{Registry, IsAt, IsAbove, HasBelow, IsNewId, NoneAt, NoneAbove, NoneBelow, id_at, id_above, address_by_id}
use Rattle.osc_tree.specs.Nodes.{new_nodes, free_nodes}
use Rattle.osc_tree.specs.Adding.{IsApart, IsAddable, IsRefused, taken, under_method, is_container, methods_full, nodes_full, add_refusal}
use Rattle.osc_tree.specs.Views.{method_of, methods_of}
use Rattle.osc_tree.proofs.Lists.{find-map, find-some, find-none, none-find, list_any-some, find-at}

option_map-map : {X Y Z : Type 0} (g : Y → Z) (f : X → Y) (o : Option X) → option_map g (option_map f o) ≡ option_map (λ x. g (f x)) o
option_map-map g f None = refl
option_map-map g f (Some x) = refl

map-some : {X Y : Type 0} (f : X → Y) (o : Option X) (y : Y) → option_map f o ≡ Some y → (x : X) × (o ≡ Some x) × (f x ≡ y)
map-some f None y e = absurd (cc)
map-some f (Some x) y e = (x, refl, let same : f x ≡ y = cc in same)

map-none : {X Y : Type 0} (f : X → Y) (o : Option X) → option_map f o ≡ None → o ≡ None
map-none f None e = refl
map-none f (Some x) e = absurd (cc)

-- what the code finds among the methods that it keeps
pub address_by_id-of : (methods : List Registered) (id : ℕ)
    → address_by_id (methods_of methods) id ≡ option_map (λ method. method.address) (find (λ method. method.id == id) methods)
address_by_id-of methods id = ap (option_map (λ method. method.address)) (find-map method_of (λ method. method.id == id) methods)
    ∙ option_map-map (λ method. method.address) method_of (find (λ method. method.id == id) methods)

held : (methods : List Method) (method : Method) (id : ℕ) (address : List ℕ) → Contains methods method → method.id ≡ id → method.address ≡ address
    → IsAt methods id address
held methods method id address there same here =
    let whole : method ≡ record { id = id; address = address } = ap (λ (n : ℕ). let m : Method = record { id = n; address = method.address } in m) same
    ∙ ap (λ (a : List ℕ). let m : Method = record { id = id; address = a } in m) here in
    subst (Contains methods) whole there

-- what holds of all methods holds of one that is there
pub all_at : (P : Method → Type 0) (methods : List Method) (id : ℕ) (address : List ℕ) → All P methods → IsAt methods id address
    → P (record { id = id; address = address })
all_at P methods id address all (k, within, is) = subst P is (all k (record { id = id; address = address }) within)

pub id_at-some : (methods : List Method) (address : List ℕ) (id : ℕ) → id_at methods address ≡ Some id → IsAt methods id address
id_at-some methods address id e =
    let found = map-some (λ method. method.id) (find (λ method. bytes_eq method.address address) methods) id e in
    let there = find-some (λ method. bytes_eq method.address address) methods found.0 found.1 in
    held methods found.0 id address there.0 found.2 ((bytes_eq-Decides found.0.address address).0 there.1)

pub different : (a b : List ℕ) → bytes_eq a b ≡ false → a ≢ b
different a b e same = let yes : bytes_eq a b ≡ true = (bytes_eq-Decides a b).1 same in cc

pub unequal : (a b : List ℕ) → a ≢ b → bytes_eq a b ≡ false
unequal a b other = false_from_ne_true (bytes_eq a b) (λ e. other ((bytes_eq-Decides a b).0 e))

pub id_at-none : (methods : List Method) (address : List ℕ) → id_at methods address ≡ None → NoneAt methods address
id_at-none methods address e =
    λ k d below.
    different _ _
    (find-none (λ method. bytes_eq method.address address) methods
    (map-none (λ method. method.id) (find (λ method. bytes_eq method.address address) methods) e) k d below)

pub none-id_at : (methods : List Method) (address : List ℕ) → NoneAt methods address → id_at methods address ≡ None
none-id_at methods address none =
    ap (option_map (λ method. method.id)) (none-find (λ method. bytes_eq method.address address) methods (λ k d below. unequal _ _ (none k d below)))

pub id_above-some : (methods : List Method) (address : List ℕ) (id : ℕ) → id_above methods address ≡ Some id → IsAbove methods id address
id_above-some methods address id e =
    let found = map-some (λ method. method.id) (find (λ method. is_proper_prefix method.address address) methods) id e in
    let there = find-some (λ method. is_proper_prefix method.address address) methods found.0 found.1 in
    (found.0.address, held methods found.0 id found.0.address there.0 found.2 refl, there.1)

pub id_above-none : (methods : List Method) (address : List ℕ) → id_above methods address ≡ None → NoneAbove methods address
id_above-none methods address e =
    find-none (λ method. is_proper_prefix method.address address) methods
    (map-none (λ method. method.id) (find (λ method. is_proper_prefix method.address address) methods) e)

pub below-some : (methods : List Method) (address : List ℕ) → list_any (λ method. is_proper_prefix address method.address) methods ≡ true
    → HasBelow methods address
below-some methods address e =
    let found = list_any-some (λ method. is_proper_prefix address method.address) methods e in
    (found.0.id, found.0.address, found.1, found.2)

pub below-none : (methods : List Method) (address : List ℕ) → list_any (λ method. is_proper_prefix address method.address) methods ≡ false
    → NoneBelow methods address
below-none methods address e = All-none (λ method. is_proper_prefix address method.address) methods e

-- the lines, one after another
pub first_line : (tree : Registry) (address : List ℕ) (id : ℕ) → id_at tree.methods address ≡ Some id → add_refusal tree address ≡ Some (taken id)
first_line tree address id e = rw e refl

pub second_line : (tree : Registry) (address : List ℕ) (id : ℕ) → id_at tree.methods address ≡ None → id_above tree.methods address ≡ Some id
    → add_refusal tree address ≡ Some (under_method id)
second_line tree address id e f = rw (e, f) refl

-- no method is at the address, above it or below it
pub record ReadsApart (tree : Registry) (address : List ℕ) : Type 0 where
  pub at : id_at tree.methods address ≡ None
  pub above : id_above tree.methods address ≡ None
  pub below : list_any (λ method. is_proper_prefix address method.address) tree.methods ≡ false

pub third_line : (tree : Registry) (address : List ℕ) → id_at tree.methods address ≡ None → id_above tree.methods address ≡ None
    → list_any (λ method. is_proper_prefix address method.address) tree.methods ≡ true → add_refusal tree address ≡ Some is_container
third_line tree address e f g = rw (e, f, g) refl

pub apart_is : (tree : Registry) (address : List ℕ) → ReadsApart tree address → IsApart tree.methods address
apart_is tree address apart =
    record {
      none_at = id_at-none tree.methods address apart.at;
      none_above = id_above-none tree.methods address apart.above;
      none_below = below-none tree.methods address apart.below;
    }

pub fourth_line : (tree : Registry) (address : List ℕ) → ReadsApart tree address → length tree.methods ≡ tree.method_limit
    → add_refusal tree address ≡ Some (methods_full tree.method_limit)
fourth_line tree address apart full = rw (apart.at, apart.above, apart.below) (go (length tree.methods == tree.method_limit) (grind (arith, nat_tests))) where
  go : (t : Bool) → t ≡ true
      → cond t (Some (methods_full tree.method_limit))
      (cond (nat_lt (free_nodes tree) (new_nodes tree.methods address)) (Some (nodes_full (new_nodes tree.methods address) (free_nodes tree))) None)
      ≡ Some (methods_full tree.method_limit)
  go t e = rw e refl

not_full : (tree : Registry) (address : List ℕ) → ReadsApart tree address → length tree.methods < tree.method_limit
    → add_refusal tree address ≡ cond (nat_lt (free_nodes tree) (new_nodes tree.methods address))
    (Some (nodes_full (new_nodes tree.methods address) (free_nodes tree))) None
not_full tree address apart room = rw (apart.at, apart.above, apart.below) (go (length tree.methods == tree.method_limit) (grind (arith, nat_tests))) where
  go : (t : Bool) → t ≡ false
      → cond t (Some (methods_full tree.method_limit))
      (cond (nat_lt (free_nodes tree) (new_nodes tree.methods address)) (Some (nodes_full (new_nodes tree.methods address) (free_nodes tree))) None)
      ≡ cond (nat_lt (free_nodes tree) (new_nodes tree.methods address)) (Some (nodes_full (new_nodes tree.methods address) (free_nodes tree))) None
  go t e = rw e refl

pub fifth_line : (tree : Registry) (address : List ℕ) → ReadsApart tree address → length tree.methods < tree.method_limit
    → free_nodes tree < new_nodes tree.methods address → add_refusal tree address ≡ Some (nodes_full (new_nodes tree.methods address) (free_nodes tree))
fifth_line tree address apart room short =
    not_full tree address apart room ∙ go (nat_lt (free_nodes tree) (new_nodes tree.methods address)) (grind (arith, nat_tests)) where
      go : (t : Bool) → t ≡ true → cond t (Some (nodes_full (new_nodes tree.methods address) (free_nodes tree))) None
          ≡ Some (nodes_full (new_nodes tree.methods address) (free_nodes tree))
      go t e = rw e refl

pub no_line : (tree : Registry) (address : List ℕ) → ReadsApart tree address → length tree.methods < tree.method_limit
    → new_nodes tree.methods address ≤ free_nodes tree → add_refusal tree address ≡ None
no_line tree address apart room enough =
    not_full tree address apart room ∙ go (nat_lt (free_nodes tree) (new_nodes tree.methods address)) (grind (arith, nat_tests)) where
      go : (t : Bool) → t ≡ false → cond t (Some (nodes_full (new_nodes tree.methods address) (free_nodes tree))) None ≡ None
      go t e = rw e refl

-- an address that is refused can't be added
pub not_addable : (tree : Registry) (address : List ℕ) (refusal : TreeRefusal) → IsRefused tree address refusal → IsAddable tree address → ⊥
not_addable tree address (Taken id) there can = all_at (λ method. method.address ≢ address) tree.methods id address can.apart.none_at there refl
not_addable tree address (UnderMethod id) (none, (above, there, is)) can =
    let no : is_proper_prefix above address ≡ false =
    all_at (λ method. is_proper_prefix method.address address ≡ false) tree.methods id above can.apart.none_above there in cc
not_addable tree address IsContainer (none, roof, (id, below, there, is)) can =
    let no : is_proper_prefix address below ≡ false =
    all_at (λ method. is_proper_prefix address method.address ≡ false) tree.methods id below can.apart.none_below there in cc
not_addable tree address (MethodsFull limit) (apart, full, is) can = let room = can.method_room in omega arith
not_addable tree address (NodesFull room) (apart, more, need, free, short) can = let enough = can.node_room in omega arith

-- where the code finds no method with the number, there is none
pub no_such_id : (registered : List Registered) (id : ℕ) → find (λ method. method.id == id) registered ≡ None → IsNewId (methods_of registered) id
no_such_id registered id e =
    λ k d below.
    differ (find-none (λ method. method.id == id) (methods_of registered)
    (find-map method_of (λ method. method.id == id) registered ∙ ap (option_map method_of) e) k d below) where
      differ : {a : ℕ} → (a == id) ≡ false → a ≢ id
      differ {a} other same = let h : (a == id) ≡ false = other in let e : a ≡ id = same in grind (arith, nat_tests)

-- the method that the code finds by its number
pub such_id : (registered : List Registered) (id : ℕ) (found : Registered) → find (λ method. method.id == id) registered ≡ Some found
    → IsAt (methods_of registered) id found.address
such_id registered id found e =
    let there = find-some (λ method. method.id == id) (methods_of registered) (method_of found)
    (find-map method_of (λ method. method.id == id) registered ∙ ap (option_map method_of) e) in
    let same : found.id ≡ id = (let h : (found.id == id) ≡ true = there.1 in grind (arith, nat_tests)) in
    held (methods_of registered) (method_of found) id found.address there.0 same refl

-- a method that has the number is the one that is found
pub found_there : (registered : List Registered) (place id : ℕ) (d : Registered) → IsMethodList (methods_of registered) → place < length registered
    → (get_or registered place d).id ≡ id → find (λ method. method.id == id) registered ≡ Some (get_or registered place d)
found_there registered place id d list within is =
    let test : Registered → Bool = λ method. method.id == id in
    let earlier : (k : ℕ) → k < place → test (get_or registered k d) ≡ false = λ k lt. go k lt (test (get_or registered k d)) refl in
    let here : test (get_or registered place d) ≡ true = (let same : (get_or registered place d).id ≡ id = is in grind (arith, nat_tests)) in
    find-at test registered place d (sym (position_or_len_is test registered place d (omega arith) earlier (λ _. here))) within
  where
    go : (k : ℕ) → k < place → (t : Bool) → ((get_or registered k d).id == id) ≡ t → t ≡ false
    go k lt false e = refl
    go k lt true e =
        let long = length-map registered method_of in
        let first : (get_or registered k d).id ≡ id = (let h : ((get_or registered k d).id == id) ≡ true = e in grind (arith, nat_tests)) in
        absurd (list.ids k place (method_of d) lt (omega arith)
        (ap (λ (m : Method). m.id) (get_or-map method_of registered k d (method_of d) (omega arith)) ∙ first ∙ sym is
        ∙ ap (λ (m : Method). m.id) (sym (get_or-map method_of registered place d (method_of d) within))))
