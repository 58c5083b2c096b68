-- How many elements of a list pass a test.
use Rattle.std.proofs.Common.{◌≡◌, ℕ, zero, suc, ◌+◌, ◌<◌, ◌≤◌, ◌==◌, Bool, true, false, cond, List, [], ◌∷◌, ◌++◌, sum_by, refl, ap, sym, ◌∙◌, arith}
use Rattle.std.specs.List.{AllByRecursion, AllPairs}
use Rattle.std.specs.List.Sorted.{IsPermutation}
use Rattle.std.proofs.lemmas.Bool.Decides.{nat_tests}
use Rattle.std.proofs.lemmas.List.Elements.{recursion_from_All}
use Rattle.std.proofs.lemmas.List.Sums.{sum_by-cons}
use Rattle.std.proofs.lemmas.List.Sorted.{sum_by-IsPermutation}
use Rattle.osc_model.specs.Passing.{numbers_from}

abbrev pub tally : {X : Type 0} → (X → Bool) → X → ℕ
tally test x = cond (test x) 1 0

abbrev pub times : {X : Type 0} → (X → Bool) → List X → ℕ
times test [] = 0
times test (x ∷ xs) = tally test x + times test xs

summed : {X : Type 0} (test : X → Bool) (xs : List X) → times test xs ≡ sum_by (tally test) xs
summed test [] = omega arith
summed test (x ∷ xs) = ap (λ (n : ℕ). tally test x + n) (summed test xs) ∙ sym (sum_by-cons (tally test) x xs)

pub times_permuted : {X : Type 0} (test : X → Bool) (xs ys : List X) → IsPermutation xs ys → times test ys ≡ times test xs
times_permuted test xs ys same = summed test ys ∙ sum_by-IsPermutation (tally test) xs ys same ∙ sym (summed test xs)

pub times_append : {X : Type 0} (test : X → Bool) (xs ys : List X) → times test (xs ++ ys) ≡ times test xs + times test ys
times_append test [] ys = omega arith
times_append test (x ∷ xs) ys = let more = times_append test xs ys in omega (arith, more)

-- one that passes counts once, and one that doesn't never
passes_once : {X : Type 0} (test : X → Bool) (x : X) → test x ≡ true → tally test x ≡ 1
passes_once test x is = ap (λ (t : Bool). cond t 1 0) is

never_passes : {X : Type 0} (test : X → Bool) (x : X) → test x ≡ false → tally test x ≡ 0
never_passes test x is = ap (λ (t : Bool). cond t 1 0) is

pub never_from : {X : Type 0} (test : X → Bool) (x : X) → tally test x ≡ 0 → test x ≡ false
never_from {X} test x is = go (test x) refl where
  go : (t : Bool) → test x ≡ t → test x ≡ false
  go false e = e
  go true e = absurd (omega (arith, is, passes_once test x e))

pub none_from : {X : Type 0} (test : X → Bool) (xs : List X) → times test xs ≡ 0 → AllByRecursion (λ x. test x ≡ false) xs
none_from test [] none = tt
none_from test (x ∷ xs) none = (never_from test x (omega (arith, none)), none_from test xs (omega (arith, none)))

pub none_times : {X : Type 0} (test : X → Bool) (xs : List X) → AllByRecursion (λ x. test x ≡ false) xs → times test xs ≡ 0
none_times test [] none = refl
none_times test (x ∷ xs) none = omega (arith, never_passes test x none.0, none_times test xs none.1)

-- behind an element that passes none passes, where at most one does
pub none_behind : {X : Type 0} (test : X → Bool) (x : X) (xs : List X) → test x ≡ true → times test (x ∷ xs) ≤ 1 → times test xs ≡ 0
none_behind test x xs is most = omega (arith, passes_once test x is, most)

-- of elements that differ at most one passes
pub at_most_one : {X : Type 0} (R : X → X → Type 0) (test : X → Bool) (xs : List X) → ((x y : X) → test x ≡ true → R x y → test y ≡ false) → AllPairs R xs
    → times test xs ≤ 1
at_most_one R test [] differ pairs = omega arith
at_most_one {X} R test (x ∷ xs) differ pairs =
    go (test x) refl (at_most_one R test xs differ (λ i j d less inside. pairs (suc i) (suc j) d (omega arith) (omega arith))) where
      go : (t : Bool) → test x ≡ t → times test xs ≤ 1 → times test (x ∷ xs) ≤ 1
      go false e rest = omega (arith, never_passes test x e, rest)
      go true e rest =
          let none = recursion_from_All (λ (y : X). test y ≡ false) xs (λ k d within. differ x _ e (pairs 0 (suc k) d (omega arith) (omega arith))) in
          omega (arith, passes_once test x e, none_times test xs none)

-- a number is one of those from another on at most once
none_below : (n first count : ℕ) → n < first → times (λ m. m == n) (numbers_from first count) ≡ 0
none_below n first zero below = refl
none_below n first (suc count) below =
    let other : (first == n) ≡ false = grind (arith, nat_tests) in
    omega (arith, never_passes (λ m. m == n) first other, none_below n (first + 1) count (omega arith))

pub numbers_once : (n first count : ℕ) → times (λ m. m == n) (numbers_from first count) ≤ 1
numbers_once n first zero = omega arith
numbers_once n first (suc count) = go (first == n) refl (numbers_once n (first + 1) count) where
  go : (t : Bool) → (first == n) ≡ t → times (λ m. m == n) (numbers_from (first + 1) count) ≤ 1 → times (λ m. m == n) (numbers_from first (suc count)) ≤ 1
  go false e rest = omega (arith, never_passes (λ m. m == n) first e, rest)
  go true e rest =
      let same : first ≡ n = grind (arith, nat_tests) in
      omega (arith, passes_once (λ m. m == n) first e, none_below n (first + 1) count (omega (arith, same)))
