-- Items in any places, and the one order in which they are taken.
use Rattle.std.proofs.Common.{◌≡◌, ◌≢◌, ℕ, ◌==◌, Bool, true, false, List, [], ◌∷◌, length, map, All, refl, sym, ◌∙◌, eq-eqb}
use Rattle.std.specs.List.{AllByRecursion}
use Rattle.std.specs.List.Sorted.{IsPermutation}
use Rattle.std.proofs.lemmas.Bool.{eqb-true}
use Rattle.std.proofs.lemmas.List.Elements.{recursion_from_All, All-from_recursion}
use Rattle.std.proofs.lemmas.List.Sorted.{IsPermutation-refl, IsPermutation-trans, IsPermutation-sym, IsPermutation-cons, IsPermutation-map, All-permutation}
use Rattle.std.proofs.lemmas.List.Sorted.{Contains-permutation, length_permutation}
use Rattle.std.proofs.lemmas.Map.Keys.{IsDistinct-IsPermutation, IsDistinct-head, IsDistinct-tail, IsDistinct-cons}
use Rattle.osc_queue.specs.Timed.{Item, unit_of, is_before, enter, IsInOrder, IsNewUnit}
use Rattle.osc_queue.specs.Views.{in_order, AreApart}
use Rattle.osc_queue.proofs.Orders.{enter_joined, enter_ordered, total}
use Rattle.osc_queue.proofs.Unique.{same_items}

flips : (m n : ℕ) → (m == n) ≡ (n == m)
flips m n = go (m == n) (n == m) refl refl where
  go : (t u : Bool) → (m == n) ≡ t → (n == m) ≡ u → t ≡ u
  go true true e f = refl
  go false false e f = refl
  go true false e f = let g : (n == m) ≡ true = eq-eqb n m (sym (eqb-true m n e)) in absurd (cc)
  go false true e f = let g : (m == n) ≡ true = eq-eqb m n (sym (eqb-true n m f)) in absurd (cc)

module _ {T : Type 0} where
  -- none is lost
  pub sorted_joined : (xs : List (Item T)) → IsPermutation xs (in_order xs)
  sorted_joined [] = IsPermutation-refl []
  sorted_joined (x ∷ xs) =
      IsPermutation-trans (x ∷ xs) (x ∷ in_order xs) (enter x (in_order xs)) (IsPermutation-cons x xs (in_order xs) (sorted_joined xs))
      (enter_joined x (in_order xs))

  -- a unit is new to items in other places too
  new_moved : (unit : ℕ) (xs ys : List (Item T)) → IsPermutation xs ys → IsNewUnit unit xs → IsNewUnit unit ys
  new_moved unit xs ys moved new =
      recursion_from_All (λ (y : Item T). unit_of y ≢ unit) ys
      (All-permutation (λ (y : Item T). unit_of y ≢ unit) xs ys moved (All-from_recursion (λ (y : Item T). unit_of y ≢ unit) xs new))

  new_by_test : (x : Item T) (xs : List (Item T)) → AllByRecursion (λ u. (unit_of x == u) ≡ false) (map unit_of xs) → IsNewUnit (unit_of x) xs
  new_by_test x [] all = tt
  new_by_test x (y ∷ ys) all = (
    λ same. let e : (unit_of x == unit_of y) ≡ true = eq-eqb (unit_of x) (unit_of y) (sym same) in
        let f : (unit_of x == unit_of y) ≡ false = all.0 in absurd (cc),
    new_by_test x ys all.1,
  )

  test_by_new : (unit : ℕ) (xs : List (Item T)) → IsNewUnit unit xs → AllByRecursion (λ u. (unit == u) ≡ false) (map unit_of xs)
  test_by_new unit [] new = tt
  test_by_new unit (y ∷ ys) new = (go (unit == unit_of y) refl, test_by_new unit ys new.1) where
    go : (t : Bool) → (unit == unit_of y) ≡ t → t ≡ false
    go true is = absurd (new.0 (sym (eqb-true unit (unit_of y) is)))
    go false is = refl

  -- the first of items that are apart is new to the others
  pub apart_new : (x : Item T) (xs : List (Item T)) → AreApart (x ∷ xs) → IsNewUnit (unit_of x) xs
  apart_new x xs apart = new_by_test x xs (IsDistinct-head ◌==◌ (unit_of x) (map unit_of xs) apart)

  pub apart_rest : (x : Item T) (xs : List (Item T)) → AreApart (x ∷ xs) → AreApart xs
  apart_rest x xs apart = IsDistinct-tail ◌==◌ (unit_of x) (map unit_of xs) apart

  pub apart_more : (x : Item T) (xs : List (Item T)) → IsNewUnit (unit_of x) xs → AreApart xs → AreApart (x ∷ xs)
  apart_more x xs new apart = IsDistinct-cons ◌==◌ (unit_of x) (map unit_of xs) (test_by_new (unit_of x) xs new) apart

  pub apart_moved : (xs ys : List (Item T)) → IsPermutation xs ys → AreApart xs → AreApart ys
  apart_moved xs ys moved apart = IsDistinct-IsPermutation ◌==◌ flips (map unit_of xs) (map unit_of ys) (IsPermutation-map unit_of xs ys moved) apart

  -- items that are apart have an order
  pub sorted_ordered : (xs : List (Item T)) → AreApart xs → IsInOrder (in_order xs)
  sorted_ordered [] apart = tt
  sorted_ordered (x ∷ xs) apart =
      enter_ordered x (in_order xs) (new_moved (unit_of x) xs (in_order xs) (sorted_joined xs) (apart_new x xs apart))
      (sorted_ordered xs (apart_rest x xs apart))

  -- which is the same in whatever places they are
  pub sorted_moved : (xs ys : List (Item T)) → IsPermutation xs ys → AreApart xs → in_order xs ≡ in_order ys
  sorted_moved xs ys moved apart =
      let there = IsPermutation-trans (in_order xs) xs (in_order ys) (IsPermutation-sym xs (in_order xs) (sorted_joined xs))
      (IsPermutation-trans xs ys (in_order ys) moved (sorted_joined ys)) in
      same_items (in_order xs) (in_order ys) (sorted_ordered xs apart) (sorted_ordered ys (apart_moved xs ys moved apart))
      (λ z held. Contains-permutation (in_order xs) (in_order ys) z there held)
      (λ z held. Contains-permutation (in_order ys) (in_order xs) z (IsPermutation-sym (in_order xs) (in_order ys) there) held)

  pub sorted_length : (xs : List (Item T)) → length (in_order xs) ≡ length xs
  sorted_length xs = length_permutation xs (in_order xs) (sorted_joined xs)

  -- a unit that is new to the order is new to the items
  pub new_unsorted : (unit : ℕ) (xs : List (Item T)) → IsNewUnit unit (in_order xs) → IsNewUnit unit xs
  new_unsorted unit xs new = new_moved unit (in_order xs) xs (IsPermutation-sym xs (in_order xs) (sorted_joined xs)) new

  -- an item that is taken before all others stands first
  pub sorted_first : (x : Item T) (xs : List (Item T)) → AllByRecursion (λ y. is_before x y ≡ true) xs → in_order (x ∷ xs) ≡ x ∷ in_order xs
  sorted_first x xs all =
      go (in_order xs)
      (recursion_from_All (λ (y : Item T). is_before x y ≡ true) (in_order xs)
      (All-permutation (λ (y : Item T). is_before x y ≡ true) xs (in_order xs) (sorted_joined xs)
      (All-from_recursion (λ (y : Item T). is_before x y ≡ true) xs all)))
    where
      go : (ys : List (Item T)) → AllByRecursion (λ y. is_before x y ≡ true) ys → enter x ys ≡ x ∷ ys
      go [] all = refl
      go (y ∷ ys) all = rw all.0 refl

  both : (x : Item T) (ys : List (Item T)) → AllByRecursion (λ y. is_before y x ≡ false) ys → IsNewUnit (unit_of x) ys
      → AllByRecursion (λ y. is_before x y ≡ true) ys
  both x [] all new = tt
  both x (y ∷ ys) all new = (total y x (λ same. new.0 (sym same)) all.0, both x ys all.1 new.1)

  -- an item before which none is taken stands first
  pub taken_first : (xs ys : List (Item T)) (x : Item T) → All (λ y. is_before y x ≡ false) xs → AreApart xs → IsPermutation xs (x ∷ ys)
      → in_order xs ≡ x ∷ in_order ys
  taken_first xs ys x all apart moved =
      let apart' = apart_moved xs (x ∷ ys) moved apart in
      let all' : AllByRecursion (λ y. is_before y x ≡ false) (x ∷ ys) =
      recursion_from_All (λ (y : Item T). is_before y x ≡ false) (x ∷ ys) (All-permutation (λ (y : Item T). is_before y x ≡ false) xs (x ∷ ys) moved all) in
      sorted_moved xs (x ∷ ys) moved apart ∙ sorted_first x ys (both x ys all'.1 (apart_new x ys apart'))
