-- What the ends of a search share with the text, all between them share too.
use Rattle.std.proofs.Common.{◌≡◌, ℕ, zero, suc, ◌+◌, ◌-◌, ◌<◌, ◌≤◌, min, Bool, true, false, not, nat_eq, List, [], ◌∷◌, ◌++◌, length, take, drop, get_or}
use Rattle.std.proofs.Common.{refl, sym, ap, subst, ◌∙◌, arith, add-one}
use Rattle.std.specs.List.{starts_with}
use Rattle.std.proofs.lemmas.Bool.{and_parts}
use Rattle.std.proofs.lemmas.Bool.Decides.{nat_tests}
use Rattle.osc_pattern.specs.Methods.{Method}
use Rattle.osc_tree.specs.Matching.{IsAscending}
use Rattle.osc_tree.specs.Order.{begins_with, IsNarrowed}
use Rattle.osc_tree.proofs.Places.{any_default}
use Rattle.osc_tree.proofs.Ranges.{lower, lower_more, ascend_far}
use Rattle.osc_tree.proofs.Charges.{begun_between}

starts_none : (a : List ℕ) → starts_with nat_eq a [] ≡ true
starts_none [] = refl
starts_none (x ∷ a) = refl

first_same : (x y : ℕ) (a text : List ℕ) → starts_with nat_eq (x ∷ a) (y ∷ text) ≡ true → (x ≡ y) × (starts_with nat_eq a text ≡ true)
first_same x y a text e =
    let both = and_parts (nat_eq y x) (starts_with nat_eq a text) e in
    ((let h : nat_eq y x ≡ true = both.0 in grind (arith, nat_tests)), both.1)

same_first : (x y : ℕ) (a text : List ℕ) → x ≡ y → starts_with nat_eq a text ≡ true → starts_with nat_eq (x ∷ a) (y ∷ text) ≡ true
same_first x y a text e f =
    let h : nat_eq y x ≡ true = grind (arith, nat_tests) in
    rw h f

-- a text that begins with many bytes of another begins with fewer
starts_take : (a text : List ℕ) (n m : ℕ) → m ≤ n → starts_with nat_eq a (take n text) ≡ true → starts_with nat_eq a (take m text) ≡ true
starts_take a text n zero le e = starts_none a
starts_take a text zero (suc m) le e = absurd (omega arith)
starts_take a [] (suc n) (suc m) le e = starts_none a
starts_take [] (y ∷ text) (suc n) (suc m) le e = absurd (cc)
starts_take (x ∷ a) (y ∷ text) (suc n) (suc m) le e =
    let both = first_same x y a (take n text) e in
    same_first x y a (take m text) both.0 (starts_take a text n m (omega arith) both.1)

starts_next : (a text : List ℕ) (i : ℕ) → i < length a → i < length text → get_or a i 0 ≡ get_or text i 0
    → starts_with nat_eq a (take i text) ≡ true → starts_with nat_eq a (take (suc i) text) ≡ true
starts_next [] text i la lt same e = absurd (omega arith)
starts_next (x ∷ a) [] i la lt same e = absurd (omega arith)
starts_next (x ∷ a) (y ∷ text) zero la lt same e = same_first x y a [] same (starts_none a)
starts_next (x ∷ a) (y ∷ text) (suc i) la lt same e =
    let both = first_same x y a (take i text) e in
    same_first x y a (take (suc i) text) both.0 (starts_next a text i (omega arith) (omega arith) same both.1)

pub starts_further : (a text : List ℕ) (i : ℕ) → i < length a → i < length text → get_or a i 0 ≡ get_or text i 0
    → starts_with nat_eq a (take i text) ≡ true → starts_with nat_eq a (take (i + 1) text) ≡ true
starts_further a text i la lt same e =
    subst (λ (n : ℕ). starts_with nat_eq a (take n text) ≡ true) (sym (add-one i)) (starts_next a text i la lt same e)

-- what is known to be the same needn't be compared
pub starts_lower : (a text tail : List ℕ) (n : ℕ) → n ≤ length text → starts_with nat_eq a (take n text) ≡ true
    → (n ≤ length a) × (lower a (text ++ tail) ≡ lower (drop n a) (drop n text ++ tail))
starts_lower a text tail zero le e = (omega arith, refl)
starts_lower a [] tail (suc n) le e = absurd (omega arith)
starts_lower [] (y ∷ text) tail (suc n) le e = absurd (cc)
starts_lower (x ∷ a) (y ∷ text) tail (suc n) le e =
    let both = first_same x y a (take n text) e in
    let more = starts_lower a text tail n (omega arith) both.1 in
    let same = both.0 in
    let is = lower_more x y a (text ++ tail) in
    let here : lower (x ∷ a) (y ∷ (text ++ tail)) ≡ lower a (text ++ tail) = grind (arith, nat_tests) in
    (omega (arith, more.0), here ∙ more.1)

pub narrowed_none : (text : List ℕ) (methods : List Method) (low high : ℕ) → IsNarrowed text methods low high 0 0
narrowed_none text methods low high =
    record { few = omega arith; few_above = omega arith; first = λ d some. absurd (omega arith); second = λ d some. absurd (omega arith) }

pub narrowed_known : (text : List ℕ) (methods : List Method) (low high below above middle known : ℕ) (d : Method) → IsAscending methods
    → IsNarrowed text methods low high below above → low ≤ middle → middle < high → known ≡ min below above
    → begins_with (take known text) (get_or methods middle d) ≡ true
narrowed_known text methods low high below above middle known d up so least lt is = go (nat_eq known 0) refl where
  go : (t : Bool) → nat_eq known 0 ≡ t → begins_with (take known text) (get_or methods middle d) ≡ true
  go true e =
      let none : known ≡ 0 = (let h : nat_eq known 0 ≡ true = e in grind (arith, nat_tests)) in
      ap (λ (n : ℕ). begins_with (take n text) (get_or methods middle d)) none ∙ starts_none (get_or methods middle d).address
  go false e =
      let some : 0 < known = (let h : nat_eq known 0 ≡ false = e in grind (arith, nat_tests)) in
      let one = so.first d (omega arith) in
      let two = so.second d (omega arith) in
      begun_between (take known text) (get_or methods (low - 1) d).address (get_or methods middle d).address (get_or methods high d).address
      (ascend_far methods (low - 1) middle d up (omega (arith, one.0)) (omega (arith, two.0)))
      (ascend_far methods middle high d up (omega arith) (omega (arith, two.0)))
      (starts_take (get_or methods (low - 1) d).address text below known (omega arith) one.1)
      (starts_take (get_or methods high d).address text above known (omega arith) two.1)

pub narrowed_up : (text : List ℕ) (methods : List Method) (low high below above middle n : ℕ) (d : Method) → IsNarrowed text methods low high below above
    → middle < length methods → n ≤ length text → begins_with (take n text) (get_or methods middle d) ≡ true
    → IsNarrowed text methods (middle + 1) high n above
narrowed_up text methods low high below above middle n d so within le e =
    let back : middle + 1 - 1 ≡ middle = omega arith in
    record {
      few = le;
      few_above = so.few_above;
      first = λ other some. (
        omega arith,
        ap (λ (k : ℕ). begins_with (take n text) (get_or methods k other)) back
            ∙ ap (begins_with (take n text)) (any_default methods middle other d within) ∙ e,
      );
      second = so.second;
    }

pub narrowed_down : (text : List ℕ) (methods : List Method) (low high below above middle n : ℕ) (d : Method) → IsNarrowed text methods low high below above
    → middle < length methods → n ≤ length text → begins_with (take n text) (get_or methods middle d) ≡ true
    → IsNarrowed text methods low middle below n
narrowed_down text methods low high below above middle n d so within le e = record {
  few = so.few;
  few_above = le;
  first = so.first;
  second = λ other some. (within, ap (begins_with (take n text)) (any_default methods middle other d within) ∙ e);
}

pub is_so : (t : Bool) → not t ≡ false → t ≡ true
is_so true e = refl
is_so false e = absurd (cc)

pub is_not : (t : Bool) → not t ≡ true → t ≡ false
is_not true e = absurd (cc)
is_not false e = refl
