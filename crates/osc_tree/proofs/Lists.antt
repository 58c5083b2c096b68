-- Lists of the code, and what they stand for.
use Rattle.std.proofs.Common.{◌≡◌, ℕ, suc, ◌+◌, ◌<◌, ◌≤◌, Bool, true, false, not, cond, ◌||◌, List, [], ◌∷◌, ◌++◌, map, find, filter, length, take, drop}
use Rattle.std.proofs.Common.{insert, get_or, Some, None, position, All, nat_lt, refl, sym, ap, ◌∙◌, one-add, arith}
use Rattle.std.specs.List.{list_any, position_or_len, AllPairs, Contains, remove, AllByRecursion}
use Rattle.std.specs.Option.{option_map}
use Rattle.std.proofs.lemmas.Bool.{ltb-true, ltb-false}
use Rattle.std.proofs.lemmas.List.{map-append, take-map, drop-map}
use Rattle.std.proofs.lemmas.List.Elements.{All-cons, All-head, All-tail, All-nil, All-filter, All-from_recursion, recursion_from_All}
use Rattle.std.proofs.lemmas.List.Sums.{length-filter, count_by-le-length}

pub find-map : {X Y : Type 0} (view : X → Y) (test : Y → Bool) (xs : List X) → find test (map view xs) ≡ option_map view (find (λ x. test (view x)) xs)
find-map view test [] = refl
find-map view test (x ∷ xs) = go (test (view x)) (find-map view test xs) where
  go : (t : Bool) → find test (map view xs) ≡ option_map view (find (λ x. test (view x)) xs)
      → cond t (Some (view x)) (find test (map view xs)) ≡ option_map view (cond t (Some x) (find (λ x. test (view x)) xs))
  go true more = refl
  go false more = more

pub position-map : {X Y : Type 0} (view : X → Y) (test : Y → Bool) (xs : List X) → position_or_len test (map view xs) ≡ position_or_len (λ x. test (view x)) xs
position-map view test [] = refl
position-map view test (x ∷ xs) = ap (λ n. cond (not (test (view x))) (1 + n) 0) (position-map view test xs)

pub insert-map : {X Y : Type 0} (view : X → Y) (n : ℕ) (x : X) (xs : List X) → map view (insert xs n x) ≡ insert (map view xs) n (view x)
insert-map view n x xs = map-append view (take n xs) (x ∷ drop n xs) ∙ ap (λ l. l ++ view x ∷ map view (drop n xs)) (sym (take-map view n xs))
    ∙ ap (λ l. take n (map view xs) ++ view x ∷ l) (sym (drop-map view n xs))

pub contains_later : {X : Type 0} (x y : X) (ys : List X) → Contains ys x → Contains (y ∷ ys) x
contains_later x y ys (k, within, is) = (suc k, omega arith, is)

-- what is found is in the list and passes the test
pub find-some : {X : Type 0} (test : X → Bool) (xs : List X) (x : X) → find test xs ≡ Some x → Contains xs x × (test x ≡ true)
find-some test [] x e = absurd (cc)
find-some test (y ∷ ys) x e = go (test y) refl e (find-some test ys x) where
  go : (t : Bool) → test y ≡ t → cond t (Some y) (find test ys) ≡ Some x → (find test ys ≡ Some x → Contains ys x × (test x ≡ true))
      → Contains (y ∷ ys) x × (test x ≡ true)
  go true is e more = let same : y ≡ x = cc in ((0, omega arith, same), ap test (sym same) ∙ is)
  go false is e more = let found = more e in (contains_later x y ys found.0, found.1)

-- where none is found, none passes the test
pub find-none : {X : Type 0} (test : X → Bool) (xs : List X) → find test xs ≡ None → All (λ x. test x ≡ false) xs
find-none test [] e = All-nil (λ x. test x ≡ false)
find-none test (y ∷ ys) e = go (test y) refl e (find-none test ys) where
  go : (t : Bool) → test y ≡ t → cond t (Some y) (find test ys) ≡ None → (find test ys ≡ None → All (λ x. test x ≡ false) ys)
      → All (λ x. test x ≡ false) (y ∷ ys)
  go true is e more = absurd (cc)
  go false is e more = All-cons (λ x. test x ≡ false) y ys is (more e)

-- where none passes the test, none is found
pub none-find : {X : Type 0} (test : X → Bool) (xs : List X) → All (λ x. test x ≡ false) xs → find test xs ≡ None
none-find test [] all = refl
none-find test (y ∷ ys) all = rw (All-head (λ x. test x ≡ false) y ys all) (none-find test ys (All-tail (λ x. test x ≡ false) y ys all))

pub list_any-some : {X : Type 0} (test : X → Bool) (xs : List X) → list_any test xs ≡ true → (x : X) × Contains xs x × (test x ≡ true)
list_any-some test [] e = absurd (cc)
list_any-some test (y ∷ ys) e = go (test y) refl e (list_any-some test ys) where
  go : (t : Bool) → test y ≡ t → (t || list_any test ys) ≡ true → (list_any test ys ≡ true → (x : _) × Contains ys x × (test x ≡ true))
      → (x : _) × Contains (y ∷ ys) x × (test x ≡ true)
  go true is e more = (y, (0, omega arith, refl), is)
  go false is e more = let found = more e in (found.0, contains_later found.0 y ys found.1, found.2)

-- the first place that passes, where there is one
pub position-some : {X : Type 0} (test : X → Bool) (xs : List X) (place : ℕ) → position test xs ≡ Some place
    → (place ≡ position_or_len test xs) × (place < length xs)
position-some test xs place e = go (nat_lt (position_or_len test xs) (length xs)) refl e where
  go : (t : Bool) → nat_lt (position_or_len test xs) (length xs) ≡ t → cond t (Some (position_or_len test xs)) None ≡ Some place
      → (place ≡ position_or_len test xs) × (place < length xs)
  go true is e = let same : place ≡ position_or_len test xs = cc in (same, let below = ltb-true _ _ is in omega arith)
  go false is e = absurd (cc)

pub position-none : {X : Type 0} (test : X → Bool) (xs : List X) → position test xs ≡ None → length xs ≤ position_or_len test xs
position-none test xs e = go (position_or_len test xs) (nat_lt (position_or_len test xs) (length xs)) refl e where
  go : (k : ℕ) (t : Bool) → nat_lt k (length xs) ≡ t → cond t (Some k) None ≡ None → length xs ≤ k
  go k true is e = absurd (cc)
  go k false is e = ltb-false k (length xs) is

find_first : {X : Type 0} (test : X → Bool) (xs : List X) (d : X) → position_or_len test xs < length xs
    → find test xs ≡ Some (get_or xs (position_or_len test xs) d)
find_first test [] d within = absurd (omega arith)
find_first test (y ∷ ys) d within = go (test y) refl within (find_first test ys d) where
  go : (t : Bool) → test y ≡ t → cond (not t) (1 + position_or_len test ys) 0 < suc (length ys)
      → (position_or_len test ys < length ys → find test ys ≡ Some (get_or ys (position_or_len test ys) d))
      → cond t (Some y) (find test ys) ≡ Some (get_or (y ∷ ys) (cond (not t) (1 + position_or_len test ys) 0) d)
  go true is within more = refl
  go false is within more = rw one-add (more (omega arith))

-- what is found stands at the first place that passes
pub find-at : {X : Type 0} (test : X → Bool) (xs : List X) (place : ℕ) (d : X) → place ≡ position_or_len test xs → place < length xs
    → find test xs ≡ Some (get_or xs place d)
find-at test xs place d is within = let lt : position_or_len test xs < length xs = omega arith in
    find_first test xs d lt ∙ ap (λ (n : ℕ). Some (get_or xs n d)) (sym is)

pub all_filter : {X : Type 0} (P : X → Type 0) (test : X → Bool) (xs : List X) → AllByRecursion P xs → AllByRecursion P (filter test xs)
all_filter P test xs all = recursion_from_All P (filter test xs) (All-filter test P xs (All-from_recursion P xs all))

pub filter_few : {X : Type 0} (test : X → Bool) (xs : List X) → length (filter test xs) ≤ length xs
filter_few test xs = omega (arith, length-filter test xs, count_by-le-length test xs)

filter_all : {X : Type 0} (p : X → Bool) (xs : List X) → All (λ x. p x ≡ true) xs → filter p xs ≡ xs
filter_all p [] all = refl
filter_all p (y ∷ ys) all = rw (All-head (λ x. p x ≡ true) y ys all) (ap (λ l. y ∷ l) (filter_all p ys (All-tail (λ x. p x ≡ true) y ys all)))

-- where at most one element passes a test, to remove the first that does is to keep those that don't
pub remove-filter : {X : Type 0} (test : X → Bool) (xs : List X) → AllPairs (λ a b. test a ≡ true → test b ≡ false) xs → position_or_len test xs < length xs
    → remove xs (position_or_len test xs) ≡ filter (λ x. not (test x)) xs
remove-filter test [] once within = refl
remove-filter test (y ∷ ys) once within =
    go (test y) refl within (remove-filter test ys (λ i j d lt in'. once (suc i) (suc j) d (omega arith) (omega arith))) where
      go : (t : Bool) → test y ≡ t → cond (not t) (1 + position_or_len test ys) 0 < suc (length ys)
          → (position_or_len test ys < length ys → remove ys (position_or_len test ys) ≡ filter (λ x. not (test x)) ys)
          → remove (y ∷ ys) (cond (not t) (1 + position_or_len test ys) 0) ≡ cond (not t) (y ∷ filter (λ x. not (test x)) ys) (filter (λ x. not (test x)) ys)
      go true is within more = sym (filter_all (λ x. not (test x)) ys (λ k d below. ap not (once 0 (suc k) d (omega arith) (omega arith) is)))
      go false is within more = rw one-add (ap (λ l. y ∷ l) (more (omega arith)))

pub position_or_len-bound : {X : Type 0} (test : X → Bool) (xs : List X) → position_or_len test xs ≤ length xs
position_or_len-bound test [] = omega arith
position_or_len-bound test (x ∷ xs) = go (test x) (position_or_len-bound test xs) where
  go : (t : Bool) → position_or_len test xs ≤ length xs → cond (not t) (1 + position_or_len test xs) 0 ≤ suc (length xs)
  go true le = omega arith
  go false le = omega arith

none_past : {X : Type 0} (test : X → Bool) (xs : List X) → length xs ≤ position_or_len test xs → list_any test xs ≡ false
none_past test [] past = refl
none_past test (y ∷ ys) past = go (test y) past (none_past test ys) where
  go : (t : Bool) → suc (length ys) ≤ cond (not t) (1 + position_or_len test ys) 0 → (length ys ≤ position_or_len test ys → list_any test ys ≡ false)
      → (t || list_any test ys) ≡ false
  go true past more = absurd (omega arith)
  go false past more = more (omega arith)

pub none_placed : {X : Type 0} (test : X → Bool) (xs : List X) → position test xs ≡ None → list_any test xs ≡ false
none_placed test xs e = go (nat_lt (position_or_len test xs) (length xs)) refl e where
  go : (t : Bool) → nat_lt (position_or_len test xs) (length xs) ≡ t → cond t (Some (position_or_len test xs)) None ≡ None → list_any test xs ≡ false
  go true is e = absurd (cc)
  go false is e = none_past test xs (ltb-false _ _ is)
