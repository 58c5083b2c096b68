-- Items in order.
use Rattle.std.proofs.Common.{◌≡◌, ◌≢◌, ◌⊎◌, inl, inr, ℕ, ◌<◌, ◌≤◌, Bool, true, false, nat_lt, List, [], ◌∷◌, refl, sym, subst, one-add, arith}
use Rattle.std.specs.List.{AllByRecursion}
use Rattle.std.specs.List.Sorted.{IsPermutation}
use Rattle.std.proofs.lemmas.Bool.Decides.{nat_tests}
use Rattle.std.proofs.lemmas.List.Sorted.{IsPermutation-insert}
use Rattle.osc_queue.specs.Timed.{Item, due_of, unit_of, is_before, enter, IsInOrder, IsLeast, IsNewUnit, NoneIsDue}

module _ {T : Type 0} where
  pub never_itself : (x : Item T) → is_before x x ≡ false
  never_itself x = grind (arith, nat_tests)

  pub one_way : (x y : Item T) → is_before x y ≡ true → is_before y x ≡ false
  one_way x y e = grind (arith, nat_tests)

  chain : (x y z : Item T) → is_before x y ≡ true → is_before y z ≡ true → is_before x z ≡ true
  chain x y z e f = grind (arith, nat_tests)

  -- an item that isn't taken before the later of two isn't taken before the earlier
  pub not_before : (x y z : Item T) → is_before y z ≡ true → is_before x z ≡ false → is_before x y ≡ false
  not_before x y z e f = grind (arith, nat_tests)

  -- of two units with different numbers one is taken before the other
  pub total : (x y : Item T) → unit_of y ≢ unit_of x → is_before x y ≡ false → is_before y x ≡ true
  total x y new e = grind (arith, nat_tests)

  no_earlier : (x y : Item T) → is_before x y ≡ true → due_of x ≤ due_of y
  no_earlier x y e = grind (arith, nat_tests)

  -- what holds of all, where one fact follows from another
  pub all_mapped : {P Q : Item T → Type 0} (xs : List (Item T)) → ((y : Item T) → P y → Q y) → AllByRecursion P xs → AllByRecursion Q xs
  all_mapped [] f all = tt
  all_mapped (y ∷ ys) f all = (f y all.0, all_mapped ys f all.1)

  -- the head of a list in order is the least
  pub head_least : (x : Item T) (xs : List (Item T)) → IsInOrder (x ∷ xs) → IsLeast x (x ∷ xs)
  head_least x xs ordered = (never_itself x, all_mapped xs (λ (y : Item T). one_way x y) ordered.0)

  -- where the head of a list in order isn't due, no item is
  pub none_is_due : (now : ℕ) (x : Item T) (xs : List (Item T)) → IsInOrder (x ∷ xs) → now < due_of x → NoneIsDue now (x ∷ xs)
  none_is_due now x xs ordered later = (
    later,
    all_mapped xs (λ (y : Item T) (before : is_before x y ≡ true). let e : due_of x ≤ due_of y = no_earlier x y before in
        let r : now < due_of y = omega arith in r) ordered.0,
  )

  enter_behind : (x y : Item T) (ys : List (Item T)) → is_before x y ≡ false → enter x (y ∷ ys) ≡ y ∷ enter x ys
  enter_behind x y ys e = rw (e, one-add) refl

  enter_ahead : (x y : Item T) (ys : List (Item T)) → is_before x y ≡ true → enter x (y ∷ ys) ≡ x ∷ y ∷ ys
  enter_ahead x y ys e = rw e refl

  -- what holds of an item and of all others holds of all, once it has entered
  pub all_entered : (P : Item T → Type 0) (x : Item T) (xs : List (Item T)) → P x → AllByRecursion P xs → AllByRecursion P (enter x xs)
  all_entered P x [] one all = (one, all)
  all_entered P x (y ∷ ys) one all = go (is_before x y) refl (all_entered P x ys one all.1) where
    go : (t : Bool) → is_before x y ≡ t → AllByRecursion P (enter x ys) → AllByRecursion P (enter x (y ∷ ys))
    go true e more = subst (AllByRecursion P) (sym (enter_ahead x y ys e)) (one, all)
    go false e more = subst (AllByRecursion P) (sym (enter_behind x y ys e)) (all.0, more)

  -- the order stays, where a unit with a new number enters
  pub enter_ordered : (x : Item T) (xs : List (Item T)) → IsNewUnit (unit_of x) xs → IsInOrder xs → IsInOrder (enter x xs)
  enter_ordered x [] new ordered = (tt, tt)
  enter_ordered x (y ∷ ys) new ordered = go (is_before x y) refl (enter_ordered x ys new.1 ordered.1) where
    go : (t : Bool) → is_before x y ≡ t → IsInOrder (enter x ys) → IsInOrder (enter x (y ∷ ys))
    go true e more = subst IsInOrder (sym (enter_ahead x y ys e)) ((e, all_mapped ys (λ (z : Item T). chain x y z e) ordered.0), ordered)
    go false e more =
        subst IsInOrder (sym (enter_behind x y ys e)) (all_entered (λ (z : Item T). is_before y z ≡ true) x ys (total x y new.0 e) ordered.0, more)

  -- the item joins the others, none of which is lost
  pub enter_joined : (x : Item T) (xs : List (Item T)) → IsPermutation (x ∷ xs) (enter x xs)
  enter_joined x xs = IsPermutation-insert xs _ x

  pub by_due_and_unit : (x y : Item T) → is_before x y ≡ true → (due_of x < due_of y) ⊎ ((due_of x ≡ due_of y) × (unit_of x < unit_of y))
  by_due_and_unit x y e = go (nat_lt (due_of x) (due_of y)) refl where
    go : (t : Bool) → nat_lt (due_of x) (due_of y) ≡ t → (due_of x < due_of y) ⊎ ((due_of x ≡ due_of y) × (unit_of x < unit_of y))
    go true earlier = inl (grind (arith, nat_tests))
    go false later = inr (grind (arith, nat_tests), grind (arith, nat_tests))

  pub before_by : (x y : Item T) → (due_of x < due_of y) ⊎ ((due_of x ≡ due_of y) × (unit_of x < unit_of y)) → is_before x y ≡ true
  before_by x y (inl earlier) = grind (arith, nat_tests)
  before_by x y (inr (same, lower)) = grind (arith, nat_tests)

  pub either : (x y : Item T) → unit_of x ≢ unit_of y → (is_before x y ≡ true) ⊎ (is_before y x ≡ true)
  either x y new = go (is_before x y) refl where
    go : (t : Bool) → is_before x y ≡ t → (is_before x y ≡ true) ⊎ (is_before y x ≡ true)
    go true e = inl e
    go false e = inr (total x y (λ same. new (sym same)) e)
