-- A heap's entries, in order.
use Rattle.std.proofs.Common.{◌≡◌, ℕ, ◌+◌, ◌*◌, ◌^◌, ◌<◌, ◌≤◌, false, true, List, [], ◌∷◌, ◌++◌, length, take, drop, get_or, All, Contains, Some, refl, sym, ap}
use Rattle.std.proofs.Common.{subst, ◌∙◌, arith}
use Rattle.std.specs.Prelude.{slice_get}
use Rattle.std.specs.List.{IsDistinct}
use Rattle.std.specs.List.Sorted.{IsPermutation}
use Rattle.std.proofs.Math.Seq.{take-append_seam}
use Rattle.std.proofs.Math.Nat.{le_trans, pow-suc, pow-zero, one-mul}
use Rattle.std.proofs.lemmas.Nat.{mul-le}
use Rattle.std.proofs.lemmas.List.{length-map, get_or_default}
use Rattle.std.proofs.lemmas.List.Elements.{All-map}
use Rattle.std.proofs.lemmas.List.Sorted.{IsPermutation-refl, IsPermutation-trans, IsPermutation-map, IsPermutation-append_comm}
use Rattle.osc_queue.specs.declared.entry.Entry.{Entry}
use Rattle.osc_queue.specs.Timed.{Item, is_before, due_of, unit_of, enter, IsInOrder, IsNewUnit, IsLeast, NoneIsDue}
use Rattle.osc_queue.specs.Views.{item_of, items_of, in_order, AreApart, IsHeap}
use Rattle.osc_queue.proofs.Orders.{none_is_due, head_least}
use Rattle.osc_queue.proofs.Shifting.{heap_first, read_at, item_at}
use Rattle.osc_queue.proofs.Sorting.{taken_first, sorted_ordered, sorted_moved, sorted_length, apart_rest, apart_more, apart_moved, new_unsorted}

pub push_bound : (k old most : ℕ) → most ≡ old → k ≤ old + 1 → k ≤ 2 * most + 2
push_bound k old most same bound = omega arith

square : (x : ℕ) → x ^ 2 ≡ x * x
square x = pow-suc x 1 ∙ ap (λ (n : ℕ). n * x) (pow-suc x 0 ∙ ap (λ (n : ℕ). n * x) (pow-zero x) ∙ one-mul x)

pub pop_bound : (k old most : ℕ) → most ≡ old → k ≤ old * old → k ≤ (2 * most + 2) ^ 2
pop_bound k old most same bound =
    subst (λ (n : ℕ). k ≤ n) (sym (square (2 * most + 2))) (le_trans bound (mul-le old old (2 * most + 2) (2 * most + 2) (omega arith) (omega arith)))

module _ {T : Type 0} where
  -- what was written back into a vector is all of it
  pub back_whole : (n : ℕ) (xs ys : List (Entry T)) → length xs ≡ n → take n (xs ++ ys) ≡ xs
  back_whole n xs ys same = ap (λ (k : ℕ). take k (xs ++ ys)) (sym same) ∙ take-append_seam xs ys

  -- no item is taken before the first of a heap
  pub first_ahead : (xs : List (Entry T)) (x : Entry T) → IsHeap xs → 0 < length xs → x ≡ get_or xs 0 x
      → All (λ y. is_before y (item_of x) ≡ false) (items_of xs)
  first_ahead xs x heap some is =
      All-map (λ (y : Item T). is_before y (item_of x) ≡ false) item_of xs
      (λ k d within. ap (is_before (item_at xs k d)) (read_at xs 0 x d some is) ∙ heap_first xs heap k k d (omega arith) within)

  -- so it stands first in the order
  pub heap_order : (xs : List (Entry T)) (x : Entry T) → IsHeap xs → AreApart (items_of xs) → 0 < length xs → x ≡ get_or xs 0 x
      → in_order (items_of xs) ≡ item_of x ∷ in_order (drop 1 (items_of xs))
  heap_order [] x heap apart some is = absurd (omega arith)
  heap_order (e ∷ es) x heap apart some is =
      taken_first (items_of (e ∷ es)) (items_of es) (item_of x) (first_ahead (e ∷ es) x heap some is) apart
      (subst (λ (y : Entry T). IsPermutation (items_of (e ∷ es)) (item_of y ∷ items_of es)) (sym is) (IsPermutation-refl (items_of (e ∷ es))))

  pub order_head : (items : List (Item T)) (xs : List (Entry T)) → in_order (items_of xs) ≡ items → AreApart (items_of xs) → IsInOrder items
  order_head items xs same apart = subst IsInOrder same (sorted_ordered (items_of xs) apart)

  pub order_long : (items : List (Item T)) (xs : List (Entry T)) → in_order (items_of xs) ≡ items → length items ≡ length xs
  order_long items xs same = ap length (sym same) ∙ sorted_length (items_of xs) ∙ length-map xs item_of

  -- where the first entry isn't due, none is
  pub none_due : (now : ℕ) (x : Item T) (items rest : List (Item T)) → items ≡ x ∷ rest → IsInOrder items → now < due_of x → NoneIsDue now items
  none_due now x items rest is ordered later =
      subst (NoneIsDue now) (sym is) (none_is_due now x rest (subst IsInOrder is ordered) later)

  -- the first entry, as it is read
  pub read_first : (xs : List (Entry T)) (x : Entry T) → Some x ≡ slice_get xs 0 → (0 < length xs) × (x ≡ get_or xs 0 x)
  read_first [] x is = absurd (cc)
  read_first (e ∷ es) x is = (omega arith, let same : x ≡ e = cc in same)

  pub same_first : (xs : List (Entry T)) (x y : Entry T) → 0 < length xs → x ≡ get_or xs 0 x → y ≡ get_or xs 0 y → x ≡ y
  same_first xs x y some one other = one ∙ get_or_default xs 0 x y some ∙ sym other

  pub none_heap : (xs : List (Entry T)) → xs ≡ [] → IsHeap xs
  none_heap [] none j d low high = absurd (omega arith)
  none_heap (e ∷ es) none j d low high = absurd (cc)

  pub none_apart : (xs : List (Entry T)) → xs ≡ [] → AreApart (items_of xs)
  unfolding IsDistinct
  none_apart [] none = tt
  none_apart (e ∷ es) none = absurd (cc)

  -- an entry that was put behind others joined them
  pub entered : (x : Entry T) (xs between ys : List (Entry T)) → between ≡ xs ++ x ∷ [] → IsPermutation between ys
      → IsPermutation (item_of x ∷ items_of xs) (items_of ys)
  entered x xs between ys is moved =
      IsPermutation-map item_of (x ∷ xs) ys
      (IsPermutation-trans (x ∷ xs) (xs ++ x ∷ []) ys (IsPermutation-append_comm (x ∷ []) xs) (subst (λ (l : List (Entry T)). IsPermutation l ys) is moved))

  -- what is said of the head of items in order
  pub head_empty : (items : List (Item T)) (x : Item T) (rest : List (Item T)) → items ≡ x ∷ rest
      → (true ≡ false → items ≡ []) × (items ≡ [] → true ≡ false)
  head_empty items x rest is = (λ e. absurd (cc), λ e. absurd (cc))

  pub head_read : (items : List (Item T)) (x : Item T) (rest : List (Item T)) → items ≡ x ∷ rest → slice_get items 0 ≡ Some x
  head_read items x rest is = ap (λ (l : List (Item T)). slice_get l 0) is

  pub head_held : (items : List (Item T)) (x : Item T) (rest : List (Item T)) → items ≡ x ∷ rest → Contains items x
  head_held items x rest is = subst (λ (l : List (Item T)). Contains l x) (sym is) (0, omega arith, refl)

  pub head_is_least : (items : List (Item T)) (x : Item T) (rest : List (Item T)) → items ≡ x ∷ rest → IsInOrder items → IsLeast x items
  head_is_least items x rest is ordered = subst (IsLeast x) (sym is) (head_least x rest (subst IsInOrder is ordered))

  -- the first of a heap that was taken out
  pub taken_out : (items : List (Item T)) (xs ys : List (Entry T)) (x : Entry T) → in_order (items_of xs) ≡ items → IsHeap xs → AreApart (items_of xs)
      → 0 < length xs → x ≡ get_or xs 0 x → IsPermutation (items_of xs) (item_of x ∷ items_of ys) → items ≡ item_of x ∷ in_order (items_of ys)
  taken_out items xs ys x same heap apart some is moved =
      sym same ∙ taken_first (items_of xs) (items_of ys) (item_of x) (first_ahead xs x heap some is) apart moved

  pub still_apart : (xs ys : List (Entry T)) (x : Entry T) → AreApart (items_of xs) → IsPermutation (items_of xs) (item_of x ∷ items_of ys)
      → AreApart (items_of ys)
  still_apart xs ys x apart moved = apart_rest (item_of x) (items_of ys) (apart_moved (items_of xs) (item_of x ∷ items_of ys) moved apart)

  pub more_apart : (items : List (Item T)) (xs : List (Entry T)) (x : Item T) → in_order (items_of xs) ≡ items → AreApart (items_of xs)
      → IsNewUnit (unit_of x) items → AreApart (x ∷ items_of xs)
  more_apart items xs x same apart new =
      apart_more x (items_of xs) (new_unsorted (unit_of x) (items_of xs) (subst (IsNewUnit (unit_of x)) (sym same) new)) apart

  pub joined_in : (items : List (Item T)) (xs ys : List (Entry T)) (x : Item T) → in_order (items_of xs) ≡ items → AreApart (x ∷ items_of xs)
      → IsPermutation (x ∷ items_of xs) (items_of ys) → in_order (items_of ys) ≡ enter x items
  joined_in items xs ys x same apart moved = sym (sorted_moved (x ∷ items_of xs) (items_of ys) moved apart) ∙ ap (enter x) same

  pub not_due : (now : ℕ) (x : Item T) (items rest : List (Item T)) → items ≡ x ∷ rest → due_of x ≤ now → NoneIsDue now items → ⊥
  not_due now x items rest is due none = let later : now < due_of x = (subst (NoneIsDue now) is none).0 in omega arith
