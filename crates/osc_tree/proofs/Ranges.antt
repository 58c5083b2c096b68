-- Of methods in the order of their addresses, those that begin with a text stand together.
use Rattle.std.proofs.Common.{Less, Equal, Greater, ◌≡◌, ℕ, zero, suc, ◌+◌, ◌<◌, ◌≤◌, Bool, true, false, cond, ◌==◌}
use Rattle.std.proofs.Common.{List, [], ◌∷◌, ◌++◌, length, get_or, refl, subst}
use Rattle.std.proofs.Common.{arith, nat_eq, nat_lt}
use Rattle.std.specs.List.{starts_with}
use Rattle.std.specs.Ordering.{is_lt, nat_cmp, ordering_then}
use Rattle.std.specs.Cmp.{IsStrictWeakOrder}
use Rattle.std.specs.Cmp.Lexicographic.{slice_cmp}
use Rattle.std.proofs.lemmas.Cmp.{nat_list_cmp_total}
use Rattle.std.proofs.lemmas.List.MinMax.{ranks_by}
use Rattle.std.proofs.lemmas.List.Elements.{All-from_recursion}
use Rattle.std.proofs.lemmas.Bool.Decides.{nat_tests}
use Rattle.osc_pattern.specs.Methods.{Method}
use Rattle.osc_tree.specs.Matching.{is_below, IsAscending}
use Rattle.osc_tree.specs.Order.{is_before, IsSearched}
use Rattle.osc_tree.proofs.Places.{any_default}

abbrev pub lower : List ℕ → List ℕ → Bool
lower a b = is_lt (slice_cmp nat_cmp a b)

pub lower_order : IsStrictWeakOrder lower
lower_order = ranks_by nat_list_cmp_total (λ (text : List ℕ). text)

-- the first bytes decide, or else what follows them
pub lower_more : (x y : ℕ) (xs ys : List ℕ) → lower (x ∷ xs) (y ∷ ys) ≡ cond (nat_lt x y) true (cond (x == y) (lower xs ys) false)
lower_more x y xs ys = go (nat_lt x y) (x == y) where
  go : (s t : Bool) → is_lt (ordering_then (cond s Less (cond t Equal Greater)) (slice_cmp nat_cmp xs ys)) ≡ cond s true (cond t (lower xs ys) false)
  go true t = refl
  go false true = refl
  go false false = refl

-- a text isn't before its own beginning
pub begun_not_before : (text address : List ℕ) → starts_with nat_eq address text ≡ true → lower address text ≡ false
begun_not_before [] [] e = refl
begun_not_before [] (y ∷ address) e = refl
begun_not_before (x ∷ text) [] e = absurd (cc)
begun_not_before (x ∷ text) (y ∷ address) e =
    let more = begun_not_before text address in
    let is = lower_more y x address text in
    grind (arith, nat_tests)

-- after a text that isn't before a beginning and doesn't begin with it no text begins with it
pub begun_no_more : (text first later : List ℕ) → starts_with nat_eq first text ≡ false → lower first text ≡ false → lower later first ≡ false
    → starts_with nat_eq later text ≡ false
begun_no_more [] first later e f g = absurd (cc)
begun_no_more (x ∷ text) [] later e f g = absurd (cc)
begun_no_more (x ∷ text) (y ∷ first) [] e f g = refl
begun_no_more (x ∷ text) (y ∷ first) (z ∷ later) e f g =
    let more = begun_no_more text first later in
    let first_is = lower_more y x first text in
    let later_is = lower_more z y later first in
    grind (arith, nat_tests)

before_smaller : (text : List ℕ) (method later : Method) → is_below later method ≡ false → is_before text later ≡ true → is_before text method ≡ true
before_smaller text method later up e = go (is_before text method) refl where
  go : (t : Bool) → is_before text method ≡ t → is_before text method ≡ true
  go true is = is
  go false is = absurd (let no = lower_order.chain later.address method.address text up is in cc)

pub behind_greater : (text : List ℕ) (method later : Method) → is_below later method ≡ false → is_before text method ≡ false → is_before text later ≡ false
behind_greater text method later up e = lower_order.chain later.address method.address text up e

-- of two methods in order the later isn't below the earlier
pub ascend_far : (methods : List Method) (i j : ℕ) (d : Method) → IsAscending methods → i ≤ j → j < length methods
    → is_below (get_or methods j d) (get_or methods i d) ≡ false
ascend_far [] i j d up le within = absurd (omega arith)
ascend_far (method ∷ methods) zero zero d up le within = same where
  same : is_below method method ≡ false
  same = go (is_below method method) refl where
    go : (t : Bool) → is_below method method ≡ t → is_below method method ≡ false
    go true is = lower_order.one_way method.address method.address is
    go false is = is
ascend_far (method ∷ methods) zero (suc j) d up le within = All-from_recursion (λ other. is_below other method ≡ false) methods up.0 j d (omega arith)
ascend_far (method ∷ methods) (suc i) zero d up le within = absurd (omega arith)
ascend_far (method ∷ methods) (suc i) (suc j) d up le within = ascend_far methods i j d up.1 (omega arith) (omega arith)

pub searched_none : (text : List ℕ) (methods : List Method) → IsSearched text methods 0 (length methods)
searched_none text methods =
    record { order = omega arith; bound = omega arith; before = λ k d lt. absurd (omega arith); behind = λ k d ge lt. absurd (omega arith) }

-- the method in the middle is before the text, or not
pub searched_up : (text : List ℕ) (methods : List Method) (low high middle : ℕ) (d : Method) → IsAscending methods → IsSearched text methods low high
    → middle < high → is_before text (get_or methods middle d) ≡ true → IsSearched text methods (middle + 1) high
searched_up text methods low high middle d up so below e =
    let bound = so.bound in
    record {
      order = omega arith;
      bound = bound;
      before = λ k other lt. before_smaller text (get_or methods k other) (get_or methods middle other)
          (ascend_far methods k middle other up (omega arith) (omega arith))
          (subst (λ m. is_before text m ≡ true) (any_default methods middle d other (omega arith)) e);
      behind = so.behind;
    }

pub searched_down : (text : List ℕ) (methods : List Method) (low high middle : ℕ) (d : Method) → IsAscending methods → IsSearched text methods low high
    → low ≤ middle → middle < high → is_before text (get_or methods middle d) ≡ false → IsSearched text methods low middle
searched_down text methods low high middle d up so above below e =
    let bound = so.bound in
    record {
      order = above;
      bound = omega arith;
      before = so.before;
      behind = λ k other ge lt. behind_greater text (get_or methods middle other) (get_or methods k other)
          (ascend_far methods middle k other up (omega arith) (omega arith))
          (subst (λ m. is_before text m ≡ false) (any_default methods middle d other (omega arith)) e);
    }

-- what is before a text is before it with a tail
pub lower_longer : (address text tail : List ℕ) → lower address text ≡ true → lower address (text ++ tail) ≡ true
lower_longer [] [] tail e = absurd (cc)
lower_longer [] (y ∷ text) tail e = refl
lower_longer (x ∷ address) [] tail e = absurd (cc)
lower_longer (x ∷ address) (y ∷ text) tail e =
    let more = lower_longer address text tail in
    let is = lower_more x y address text in
    let longer = lower_more x y address (text ++ tail) in
    grind (arith, nat_tests)

-- where the search for a text came to, that for the text with a tail begins
pub searched_longer : (text tail : List ℕ) (methods : List Method) (at : ℕ) → IsSearched text methods at at
    → IsSearched (text ++ tail) methods at (length methods)
searched_longer text tail methods at so =
    record {
      order = so.bound;
      bound = omega arith;
      before = λ k d lt. lower_longer (get_or methods k d).address text tail (so.before k d lt);
      behind = λ k d ge lt. absurd (omega arith);
    }

-- the same, where there may be none in the middle
pub searched_to : (text : List ℕ) (methods : List Method) (low high middle : ℕ) (d : Method) → IsAscending methods → IsSearched text methods low high
    → low ≤ middle → middle ≤ high → (middle < high → is_before text (get_or methods middle d) ≡ false) → IsSearched text methods low middle
searched_to text methods low high middle d up so above le e = go (nat_lt middle high) refl where
  go : (t : Bool) → nat_lt middle high ≡ t → IsSearched text methods low middle
  go true f =
      let less : middle < high = (let h : nat_lt middle high ≡ true = f in grind (arith, nat_tests)) in
      searched_down text methods low high middle d up so above less (e less)
  go false f =
      let same : high ≡ middle = (let h : nat_lt middle high ≡ false = f in grind (arith, nat_tests)) in
      subst (λ (n : ℕ). IsSearched text methods low n) same so
