-- The first place at which a test holds: what stands before it, and the bytes that are zero or not.
use Rattle.std.proofs.Common.{◌≡◌, ℕ, zero, suc, ◌+◌, ◌<◌, ◌≤◌, Bool, true, false, cond, not, ◌&&◌, ltb, List, [], ◌∷◌, ◌++◌, length, replicate, position, take}
use Rattle.std.proofs.Common.{Option, Some, None, refl, ap, subst, inl, inr, arith, length-append}
use Rattle.std.specs.List.{list_all, position_or_len}
use Rattle.std.proofs.lemmas.Bool.{cases_eq, ltb-true, lt-ltb, le-ltb}
use Rattle.std.proofs.lemmas.List.{append-nil}
use Rattle.std.proofs.lemmas.Option.{cond_some}
use Rattle.std.proofs.lemmas.Bool.Decides.{nat_tests}
use Rattle.osc_atoms.specs.Reading.{is_other}

-- the test holds nowhere
abbrev pub fails_on : (ℕ → Bool) → List ℕ → Bool
fails_on p xs = list_all (λ x. not (p x)) xs

-- the list is cut at the first place where the test holds
pub record CutAt (p : ℕ → Bool) (xs : List ℕ) (k : ℕ) : Type 0 where
  pub front : List ℕ
  pub item : ℕ
  pub back : List ℕ
  pub parts : xs ≡ front ++ item ∷ back
  pub size : length front ≡ k
  pub before : fails_on p front ≡ true
  pub here : p item ≡ true

-- a list whose length is no more than the place is one where the test fails
pub cut : (p : ℕ → Bool) (xs : List ℕ) → position_or_len p xs < length xs → CutAt p xs (position_or_len p xs)
cut p [] lt = absurd (omega arith)
cut p (x ∷ xs) lt = go (p x) refl lt (cut p xs) where
  go : (t : Bool) → p x ≡ t → cond (not t) (1 + position_or_len p xs) 0 < suc (length xs)
      → (position_or_len p xs < length xs → CutAt p xs (position_or_len p xs)) → CutAt p (x ∷ xs) (cond (not t) (1 + position_or_len p xs) 0)
  go true e lt more = record { front = []; item = x; back = xs; parts = refl; size = refl; before = refl; here = e }
  go false e lt more =
      let rest = more (omega arith) in
      record {
        front = x ∷ rest.front;
        item = rest.item;
        back = rest.back;
        parts = ap (λ (l : List ℕ). x ∷ l) rest.parts;
        size = omega (arith, rest.size);
        before = rw e rest.before;
        here = rest.here;
      }

pub place_behind : (p : ℕ → Bool) (xs ys : List ℕ) → fails_on p xs ≡ true → position_or_len p (xs ++ ys) ≡ length xs + position_or_len p ys
place_behind p [] ys none = omega arith
place_behind p (x ∷ xs) ys none = go (p x) refl none (place_behind p xs ys) where
  go : (t : Bool) → p x ≡ t → (not t && fails_on p xs) ≡ true → (fails_on p xs ≡ true → position_or_len p (xs ++ ys) ≡ length xs + position_or_len p ys)
      → cond (not t) (1 + position_or_len p (xs ++ ys)) 0 ≡ suc (length xs) + position_or_len p ys
  go true e none more = absurd (cc)
  go false e none more = omega (arith, more none)

-- where the test holds nowhere, there is no first place
pub no_place : (p : ℕ → Bool) (xs : List ℕ) → fails_on p xs ≡ true → position p xs ≡ None
no_place p xs none =
    let all : position_or_len p (xs ++ []) ≡ length xs + 0 = place_behind p xs [] none in
    let past : length xs ≤ position_or_len p xs = omega (arith, rw append-nil at all) in
    rw (le-ltb (position_or_len p xs) (length xs) past) refl

-- the first place behind a list where the test fails
pub found_behind : (p : ℕ → Bool) (xs : List ℕ) (y : ℕ) (ys : List ℕ) → fails_on p xs ≡ true → p y ≡ true → position p (xs ++ y ∷ ys) ≡ Some (length xs)
found_behind p xs y ys none here =
    let first : position_or_len p (y ∷ ys) ≡ 0 = rw here refl in
    let place : position_or_len p (xs ++ y ∷ ys) ≡ length xs = omega (arith, place_behind p xs (y ∷ ys) none, first) in
    rw (place, lt-ltb (length xs) (length (xs ++ y ∷ ys)) (omega (arith, length-append xs (y ∷ ys)))) refl

-- a first place cuts the list
pub found : (p : ℕ → Bool) (xs : List ℕ) (k : ℕ) → position p xs ≡ Some k → CutAt p xs k
found p xs k is =
    let first = cond_some _ _ _ is in
    subst (CutAt p xs) first.1 (cut p xs (ltb-true _ _ first.0))

not_first : (n : ℕ) → cond {A = Option ℕ} (ltb 0 (suc n)) (Some 0) None ≡ None → ⊥
not_first n is = grind (arith, nat_tests)

no_later : (a n : ℕ) → cond {A = Option ℕ} (ltb (1 + a) (suc n)) (Some (1 + a)) None ≡ None → cond (ltb a n) (Some a) None ≡ None
no_later a n is = grind (arith, nat_tests)

-- with no first place the test holds nowhere
pub not_found : (p : ℕ → Bool) (xs : List ℕ) → position p xs ≡ None → fails_on p xs ≡ true
not_found p [] is = refl
not_found p (x ∷ xs) is = go (p x) refl is (not_found p xs) where
  go : (t : Bool) → p x ≡ t → cond (ltb (cond (not t) (1 + position_or_len p xs) 0) (suc (length xs))) (Some (cond (not t) (1 + position_or_len p xs) 0)) None
      ≡ None → (position p xs ≡ None → fails_on p xs ≡ true) → (not t && fails_on p xs) ≡ true
  go true e is more = absurd (not_first (length xs) is)
  go false e is more = more (no_later (position_or_len p xs) (length xs) is)

pub zeros_are : (n : ℕ) → fails_on is_other (replicate n 0) ≡ true
zeros_are zero = refl
zeros_are (suc n) = zeros_are n

pub are_zeros : (xs : List ℕ) → fails_on is_other xs ≡ true → xs ≡ replicate (length xs) 0
are_zeros [] zeros = refl
are_zeros (x ∷ xs) zeros = elim (cases_eq x 0) [
  | inl is ↦
      let tail : fails_on is_other xs ≡ true = grind (arith, nat_tests) in
      let more = are_zeros xs tail in
      grind (arith, nat_tests)
  | inr isnt ↦ absurd (grind (arith, nat_tests))
]

-- a place among the first elements is the first place of all
pub place_among : (p : ℕ → Bool) (n : ℕ) (xs : List ℕ) → position_or_len p (take n xs) < n → n ≤ length xs → position_or_len p xs ≡ position_or_len p (take n xs)
place_among p zero xs lt le = absurd (omega arith)
place_among p (suc n) [] lt le = absurd (omega arith)
place_among p (suc n) (x ∷ xs) lt le = go (p x) lt (place_among p n xs) where
  go : (t : Bool) → cond (not t) (1 + position_or_len p (take n xs)) 0 < suc n
      → (position_or_len p (take n xs) < n → n ≤ length xs → position_or_len p xs ≡ position_or_len p (take n xs))
      → cond (not t) (1 + position_or_len p xs) 0 ≡ cond (not t) (1 + position_or_len p (take n xs)) 0
  go true lt more = refl
  go false lt more = omega (arith, more (omega arith) (omega arith))

pub found_among : (p : ℕ → Bool) (n : ℕ) (xs : List ℕ) → position_or_len p (take n xs) < n → n ≤ length xs → position p xs ≡ Some (position_or_len p (take n xs))
found_among p n xs lt le =
    let e = place_among p n xs lt le in
    rw (lt-ltb (position_or_len p xs) (length xs) (omega arith)) (ap Some e)
