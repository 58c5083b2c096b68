-- A list in order is the only one with its items.
use Rattle.std.proofs.Common.{◌≡◌, ◌⊎◌, inl, inr, zero, suc, true, false, List, [], ◌∷◌, refl, sym, ap, subst, ◌∙◌, arith}
use Rattle.std.specs.List.{AllByRecursion, Contains}
use Rattle.std.proofs.lemmas.List.Elements.{All-from_recursion}
use Rattle.osc_queue.specs.Timed.{Item, is_before, IsInOrder, IsLeast}
use Rattle.osc_queue.proofs.Orders.{never_itself, one_way}

module _ {T : Type 0} where
  -- an item of a list is the head or one of the others
  head_or_other : (x y : Item T) (ys : List (Item T)) → Contains (y ∷ ys) x → (y ≡ x) ⊎ Contains ys x
  head_or_other x y ys (zero, within, is) = inl is
  head_or_other x y ys (suc k, within, is) = inr (k, omega arith, is)

  among_others : (x y : Item T) (ys : List (Item T)) → Contains ys x → Contains (y ∷ ys) x
  among_others x y ys (k, within, is) = (suc k, omega arith, is)

  all_at : (P : Item T → Type 0) (x : Item T) (xs : List (Item T)) → AllByRecursion P xs → Contains xs x → P x
  all_at P x xs all (k, within, is) = subst P is (All-from_recursion P xs all k x within)

  head_before : (x y : Item T) (ys : List (Item T)) → IsInOrder (y ∷ ys) → Contains ys x → is_before y x ≡ true
  head_before x y ys ordered other = all_at (λ z. is_before y z ≡ true) x ys ordered.0 other

  -- only the head is the least
  pub only_head : (x y : Item T) (ys : List (Item T)) → IsInOrder (y ∷ ys) → Contains (y ∷ ys) x → IsLeast x (y ∷ ys) → x ≡ y
  only_head x y ys ordered held least = go (head_or_other x y ys held) where
    go : (y ≡ x) ⊎ Contains ys x → x ≡ y
    go (inl same) = sym same
    go (inr other) = let e : is_before y x ≡ true = head_before x y ys ordered other in let f : is_before y x ≡ false = least.0 in absurd (cc)

  -- two lists in order with each other's heads have one head
  same_head : (x y : Item T) (xs ys : List (Item T)) → IsInOrder (x ∷ xs) → IsInOrder (y ∷ ys) → Contains (y ∷ ys) x → Contains (x ∷ xs) y → x ≡ y
  same_head x y xs ys first second there back = go (head_or_other x y ys there) (head_or_other y x xs back) where
    go : (y ≡ x) ⊎ Contains ys x → (x ≡ y) ⊎ Contains xs y → x ≡ y
    go (inl same) other = sym same
    go (inr held) (inl same) = same
    go (inr held) (inr other) = let e : is_before y x ≡ true = head_before x y ys second held in
        let f : is_before y x ≡ false = one_way x y (head_before y x xs first other) in absurd (cc)

  -- the others of one list are among the others of another with the same head
  others_held : (x z : Item T) (xs ys : List (Item T)) → IsInOrder (x ∷ xs) → Contains xs z → Contains (x ∷ ys) z → Contains ys z
  others_held x z xs ys ordered held there = go (head_or_other z x ys there) where
    go : (x ≡ z) ⊎ Contains ys z → Contains ys z
    go (inr other) = other
    go (inl same) =
        let e : is_before x z ≡ true = head_before z x xs ordered held in
        let f : is_before x z ≡ false = subst (λ (w : Item T). is_before x w ≡ false) same (never_itself x) in
        absurd (cc)

  pub same_items : (xs ys : List (Item T)) → IsInOrder xs → IsInOrder ys → ((z : Item T) → Contains xs z → Contains ys z)
      → ((z : Item T) → Contains ys z → Contains xs z) → xs ≡ ys
  same_items [] [] first second there back = refl
  same_items [] (y ∷ ys) first second there back = let none : Contains [] y = back y (0, omega arith, refl) in absurd (omega (arith, none.1))
  same_items (x ∷ xs) [] first second there back = let none : Contains [] x = there x (0, omega arith, refl) in absurd (omega (arith, none.1))
  same_items (x ∷ xs) (y ∷ ys) first second there back =
      let same : x ≡ y = same_head x y xs ys first second (there x (0, omega arith, refl)) (back y (0, omega arith, refl)) in
      let first' : IsInOrder (y ∷ xs) = subst (λ (w : Item T). IsInOrder (w ∷ xs)) same first in
      let there' : (z : Item T) → Contains xs z → Contains ys z = λ z held. others_held y z xs ys first' held (there z (among_others z x xs held)) in
      let back' : (z : Item T) → Contains ys z
      → Contains xs z =
      λ z held. others_held x z ys xs (subst (λ (w : Item T). IsInOrder (w ∷ ys)) (sym same) second) held (back z (among_others z y ys held)) in
      ap (λ (w : Item T). w ∷ xs) same ∙ ap (λ (l : List (Item T)). y ∷ l) (same_items xs ys first.1 second.1 there' back')
