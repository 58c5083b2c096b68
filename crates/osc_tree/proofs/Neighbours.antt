-- The nodes that an address adds, by what it has in common with the two methods beside its place in the order.
use Rattle.std.proofs.Common.{◌≡◌, ◌≤◌, ◌<◌, ℕ, zero, suc, ◌-◌, max, Bool, true, false, not, cond, ◌||◌, nat_lt, List, [], ◌∷◌, ◌++◌, length, fold, take}
use Rattle.std.proofs.Common.{drop, get_or, count_by, refl, sym, ap, ◌∙◌, arith}
use Rattle.std.specs.List.{list_any, position_or_len}
use Rattle.std.specs.Str.{bytes_eq}
use Rattle.std.proofs.lemmas.Bool.Decides.{nat_tests}
use Rattle.std.proofs.lemmas.List.{take-append-drop}
use Rattle.std.proofs.lemmas.List.Folds.{list_any-append, list_any_at}
use Rattle.std.proofs.lemmas.List.Sums.{sum_by-cons}
use Rattle.std.proofs.lemmas.List.Elements.{recursion_from_All, All-from_recursion}
use Rattle.std.proofs.lemmas.Slice.Eq.{bytes_eq-Decides}
use Rattle.osc_pattern.specs.Patterns.{parts_of, begins_with_slash}
use Rattle.osc_pattern.specs.Methods.{Method, IsMethodList, prefixes_of}
use Rattle.osc_tree.specs.Adding.{IsApart}
use Rattle.osc_tree.specs.Matching.{is_below, in_place}
use Rattle.osc_tree.specs.Nodes.{has_node, new_nodes}
use Rattle.osc_tree.specs.Order.{ordered, is_before, IsSearched}
use Rattle.osc_tree.specs.Walking.{shared, shared_at, shared_before, IsSorted}
use Rattle.osc_tree.proofs.Lists.{list_any-some}
use Rattle.osc_tree.proofs.Places.{any_default}
use Rattle.osc_tree.proofs.Ranges.{lower_order, ascend_far}
use Rattle.osc_tree.proofs.Alike.{prefixes_long, node_shares, shares_node, shared_first, shared_turn, shared_through}
use Rattle.osc_tree.proofs.Apart.{all_folded, ordered_sorted}
use Rattle.osc_tree.proofs.Charges.{AreApart, shared_between, at_slash}
use Rattle.osc_tree.proofs.Lines.{unequal}

any_middle : {X : Type 0} (test : X → Bool) (front : List X) (x : X) (back : List X)
    → list_any test (front ++ x ∷ back) ≡ (test x || list_any test (front ++ back))
any_middle test front x back = list_any-append test front (x ∷ back) ∙ turn (list_any test front) (test x) (list_any test back)
    ∙ ap (λ (t : Bool). test x || t) (sym (list_any-append test front back)) where
      turn : (a b c : Bool) → (a || (b || c)) ≡ (b || (a || c))
      turn true true c = refl
      turn true false c = refl
      turn false b c = refl

any_folded : (test : Method → Bool) (methods more : List Method) → list_any test (fold in_place methods more) ≡ (list_any test more || list_any test methods)
any_folded test methods [] = refl
any_folded test methods (method ∷ more) =
    let place = position_or_len (is_below method) methods in
    any_folded test (in_place methods method) more
    ∙ ap (λ (t : Bool). list_any test more || t)
    (any_middle test (take place methods) method (drop place methods)
    ∙ ap (λ l. test method || list_any test l) (take-append-drop place methods))
    ∙ turn (list_any test more) (test method) (list_any test methods)
  where
    turn : (a b c : Bool) → (a || (b || c)) ≡ ((b || a) || c)
    turn true true c = refl
    turn true false c = refl
    turn false true c = refl
    turn false false c = refl

-- the methods in another order have the same nodes
pub any_ordered : (test : Method → Bool) (methods : List Method) → list_any test (ordered methods) ≡ list_any test methods
any_ordered test methods = any_folded test [] methods ∙ none (list_any test methods) where
  none : (t : Bool) → (t || false) ≡ t
  none true = refl
  none false = refl

-- what passes a test stands first
count_behind : {X : Type 0} (test : X → Bool) (xs : List X) (near : ℕ) → near ≤ length xs
    → ((k : ℕ) (d : X) → k < length xs → test (get_or xs k d) ≡ nat_lt k near) → count_by (λ x. not (test x)) xs ≡ length xs - near
count_behind test [] near le each = omega arith
count_behind test (x ∷ xs) zero le each =
    let more = count_behind test xs 0 (omega arith) (λ k d lt. each (suc k) d (omega arith) ∙ ends k) in
    let first : test x ≡ false = each 0 x (omega arith) in
    omega (arith, more, sum_by-cons (λ y. cond {A = ℕ} (not (test y)) 1 0) x xs, ap (λ (t : Bool). cond {A = ℕ} (not t) 1 0) first)
  where
    ends : (k : ℕ) → nat_lt (suc k) 0 ≡ nat_lt k 0
    ends k = grind (arith, nat_tests)
count_behind test (x ∷ xs) (suc near) le each =
    let more = count_behind test xs near (omega arith) (λ k d lt. each (suc k) d (omega arith) ∙ one k near) in
    let first : test x ≡ true = each 0 x (omega arith) ∙ some near in
    omega (arith, more, sum_by-cons (λ y. cond {A = ℕ} (not (test y)) 1 0) x xs, ap (λ (t : Bool). cond {A = ℕ} (not t) 1 0) first)
  where
    one : (k near : ℕ) → nat_lt (suc k) (suc near) ≡ nat_lt k near
    one k near = grind (arith, nat_tests)

    some : (near : ℕ) → nat_lt 0 (suc near) ≡ true
    some near = grind (arith, nat_tests)

-- an address that is apart from all
pub record IsAside (methods : List Method) (address : List ℕ) : Type 0 where
  pub slash : begins_with_slash address ≡ true
  pub apart : (k : ℕ) (d : Method) → k < length methods → AreApart (get_or methods k d).address address

aside_of : (methods : List Method) (address : List ℕ) → begins_with_slash address ≡ true → IsApart methods address → IsAside (ordered methods) address
aside_of methods address slash apart = record {
  slash = slash;
  apart = All-from_recursion (λ method. AreApart method.address address) (ordered methods)
      (all_folded (λ method. AreApart method.address address) [] methods tt
      (recursion_from_All (λ method. AreApart method.address address) methods
      (λ k d lt. record {
        differ = unequal (get_or methods k d).address address (apart.none_at k d lt);
        above = apart.none_above k d lt;
        below = apart.none_below k d lt;
      })));
}

-- no method has more names in common with an address than the two beside its place
beside : (methods : List Method) (address : List ℕ) (at i : ℕ) (d : Method) → IsSorted methods → IsAside methods address → IsSearched address methods at at
    → i < length methods
    → shared (parts_of address) (parts_of (get_or methods i d).address)
    ≤ max (shared_before methods (parts_of address) at) (shared_at methods (parts_of address) at)
beside methods address at i d sorted aside so within = go (nat_lt i at) refl where
  none : Method
  none = record { id = 0; address = [] }

  there : (k : ℕ) → k < length methods → shared_at methods (parts_of address) k ≡ shared (parts_of address) (parts_of (get_or methods k d).address)
  there k lt =
      let h : nat_lt k (length methods) ≡ true = grind (arith, nat_tests) in
      ap (λ (t : Bool). cond t (shared (parts_of address) (parts_of (get_or methods k none).address)) 0) h
      ∙ ap (λ (m : Method). shared (parts_of address) (parts_of m.address)) (any_default methods k none d lt)

  before : (at : ℕ) → i < at → at ≤ length methods → ((k : ℕ) → k < at → is_before address (get_or methods k d) ≡ true)
      → shared (parts_of address) (parts_of (get_or methods i d).address) ≤ shared_before methods (parts_of address) at
  before zero lt bound below = absurd (omega arith)
  before (suc b) lt bound below =
      let one = shared_turn (parts_of address) (parts_of (get_or methods i d).address) in
      let two = shared_turn (parts_of address) (parts_of (get_or methods b d).address) in
      let same = there b (omega arith) in
      let more = shared_between (get_or methods i d).address (get_or methods b d).address address
      (shared (parts_of (get_or methods i d).address) (parts_of address)) (at_slash methods i d sorted within) (at_slash methods b d sorted (omega arith))
      aside.slash
      (ascend_far methods i b d sorted.ascending (omega arith) (omega arith))
      (lower_order.one_way (get_or methods b d).address address (below b (omega arith))) (aside.apart i d within) (omega arith) in
      omega arith

  turned : AreApart (get_or methods i d).address address → AreApart address (get_or methods i d).address
  turned apart = record { differ = flip (bytes_eq address (get_or methods i d).address) refl; above = apart.below; below = apart.above } where
    flip : (t : Bool) → bytes_eq address (get_or methods i d).address ≡ t → bytes_eq address (get_or methods i d).address ≡ false
    flip false e = e
    flip true e =
        absurd (let is = (bytes_eq-Decides (get_or methods i d).address address).1 (sym ((bytes_eq-Decides address (get_or methods i d).address).0 e)) in
        let no = apart.differ in cc)

  go : (t : Bool) → nat_lt i at ≡ t → shared (parts_of address) (parts_of (get_or methods i d).address)
      ≤ max (shared_before methods (parts_of address) at) (shared_at methods (parts_of address) at)
  go true is =
      let lt : i < at = (let h : nat_lt i at ≡ true = is in grind (arith, nat_tests)) in
      let le = before at lt so.bound (λ k less. so.before k d less) in omega arith
  go false is =
      let le : at ≤ i = (let h : nat_lt i at ≡ false = is in grind (arith, nat_tests)) in
      let inside : at < length methods = omega arith in
      let same = there at inside in
      let last = parts_of (get_or methods i d).address in
      let middle = parts_of (get_or methods at d).address in
      let more = shared_between address (get_or methods at d).address (get_or methods i d).address (shared (parts_of address) last)
      aside.slash (at_slash methods at d sorted inside) (at_slash methods i d sorted within) (so.behind at d (omega arith) inside)
      (ascend_far methods at i d sorted.ascending le within) (turned (aside.apart i d within)) (omega arith) in
      let one = shared_turn (parts_of address) last in
      let two = shared_turn middle last in
      let own = shared_through last (parts_of address) middle (shared (parts_of address) last) (omega arith) (omega arith) in
      omega arith

at_most : (methods : List Method) (names : List (List ℕ)) (at : ℕ) → shared_at methods names at ≤ length names
at_most methods names at = go (nat_lt at (length methods)) (shared_first names (parts_of (get_or methods at none).address)) where
  none : Method
  none = record { id = 0; address = [] }

  go : (t : Bool) → shared names (parts_of (get_or methods at none).address) ≤ length names
      → cond t (shared names (parts_of (get_or methods at none).address)) 0 ≤ length names
  go true le = le
  go false le = omega arith

before_most : (methods : List Method) (names : List (List ℕ)) (at : ℕ) → shared_before methods names at ≤ length names
before_most methods names zero = omega arith
before_most methods names (suc at) = at_most methods names at

-- the two have no more names in common with an address than it has
pub near_most : (methods : List Method) (names : List (List ℕ)) (at : ℕ) → max (shared_before methods names at) (shared_at methods names at) ≤ length names
near_most methods names at = let one = at_most methods names at in let two = before_most methods names at in omega arith

-- as many nodes are new as there are names past those
pub new_nodes_beside : (methods : List Method) (address : List ℕ) (at : ℕ) → IsMethodList methods → begins_with_slash address ≡ true → IsApart methods address
    → IsSearched address (ordered methods) at at
    → new_nodes methods address
    ≡ length (parts_of address) - max (shared_before (ordered methods) (parts_of address) at) (shared_at (ordered methods) (parts_of address) at)
new_nodes_beside methods address at list slash apart so =
    count_behind (has_node methods) (prefixes_of address) near (omega (arith, near_most all (parts_of address) at, prefixes_long address)) each
    ∙ ap (λ (n : ℕ). n - near) (prefixes_long address)
  where
    all : List Method
    all = ordered methods

    near : ℕ
    near = max (shared_before all (parts_of address) at) (shared_at all (parts_of address) at)

    none : Method
    none = record { id = 0; address = [] }

    has : (k j : ℕ) → k < shared_at all (parts_of address) j
        → list_any (λ (method : Method). list_any (bytes_eq (get_or (prefixes_of address) k [])) (prefixes_of method.address)) all ≡ true
    has k j lt = go (nat_lt j (length all)) refl lt where
      go : (t : Bool) → nat_lt j (length all) ≡ t → k < cond t (shared (parts_of address) (parts_of (get_or all j none).address)) 0
          → list_any (λ (method : Method). list_any (bytes_eq (get_or (prefixes_of address) k [])) (prefixes_of method.address)) all ≡ true
      go false is lt = absurd (omega arith)
      go true is lt =
          let inside : j < length all = (let h : nat_lt j (length all) ≡ true = is in grind (arith, nat_tests)) in
          let turned = shared_turn (parts_of address) (parts_of (get_or all j none).address) in
          list_any_at (λ (method : Method). list_any (bytes_eq (get_or (prefixes_of address) k [])) (prefixes_of method.address)) all j none inside
          (shares_node (get_or all j none).address address k (at_slash all j none (ordered_sorted methods list) inside) slash (omega arith))

    has_before : (k at : ℕ) → k < shared_before all (parts_of address) at
        → list_any (λ (method : Method). list_any (bytes_eq (get_or (prefixes_of address) k [])) (prefixes_of method.address)) all ≡ true
    has_before k zero lt = absurd (omega arith)
    has_before k (suc j) lt = has k j lt

    some : (k : ℕ) → k < near → has_node all (get_or (prefixes_of address) k []) ≡ true
    some k lt = go (nat_lt k (shared_at all (parts_of address) at)) refl where
      go : (t : Bool) → nat_lt k (shared_at all (parts_of address) at) ≡ t → has_node all (get_or (prefixes_of address) k []) ≡ true
      go true is = has k at (let h : nat_lt k (shared_at all (parts_of address) at) ≡ true = is in grind (arith, nat_tests))
      go false is =
          let past : shared_at all (parts_of address) at ≤ k = (let h : nat_lt k (shared_at all (parts_of address) at) ≡ false = is in grind (
            arith,
            nat_tests,
          )) in
          has_before k at (omega arith)

    not_past : (k : ℕ) → k < length (parts_of address) → has_node all (get_or (prefixes_of address) k []) ≡ true → k < near
    not_past k lt e =
        let found = list_any-some (λ (method : Method). list_any (bytes_eq (get_or (prefixes_of address) k [])) (prefixes_of method.address)) all e in
        let i = found.1.0 in
        let inside : i < length all = found.1.1 in
        let other : Method = get_or all i found.0 in
        let sorted = ordered_sorted methods list in
        let node : list_any (bytes_eq (get_or (prefixes_of address) k [])) (prefixes_of other.address) ≡ true =
        ap (λ (method : Method). list_any (bytes_eq (get_or (prefixes_of address) k [])) (prefixes_of method.address)) found.1.2 ∙ found.2 in
        let shares = node_shares other.address address k (at_slash all i found.0 sorted inside) slash lt node in
        let turned = shared_turn (parts_of address) (parts_of other.address) in
        let most = beside all address at i found.0 sorted (aside_of methods address slash apart) so inside in
        omega arith

    test_is : (k : ℕ) → k < length (parts_of address) → has_node methods (get_or (prefixes_of address) k []) ≡ nat_lt k near
    test_is k lt = sym (any_ordered (λ method. list_any (bytes_eq (get_or (prefixes_of address) k [])) (prefixes_of method.address)) methods)
        ∙ go (has_node all (get_or (prefixes_of address) k [])) refl (nat_lt k near) refl where
          go : (s : Bool) → has_node all (get_or (prefixes_of address) k []) ≡ s → (t : Bool) → nat_lt k near ≡ t
              → has_node all (get_or (prefixes_of address) k []) ≡ nat_lt k near
          go true e true f = e ∙ sym f
          go false e false f = e ∙ sym f
          go true e false f = absurd (let less = not_past k lt e in let h : nat_lt k near ≡ false = f in grind (arith, nat_tests))
          go false e true f = absurd (let yes' = some k (let h : nat_lt k near ≡ true = f in grind (arith, nat_tests)) in cc)

    each : (k : ℕ) (d : List ℕ) → k < length (prefixes_of address) → has_node methods (get_or (prefixes_of address) k d) ≡ nat_lt k near
    each k d lt = ap (has_node methods) (any_default (prefixes_of address) k d [] lt) ∙ test_is k (omega (arith, prefixes_long address))
