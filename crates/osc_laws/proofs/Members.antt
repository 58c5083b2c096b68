-- What stands in a list, in its first part or its last, and what passes a test.
use Rattle.std.proofs.Common.{◌≡◌, ◌⊎◌, inl, inr, zero, suc, Bool, true, false, cond, List, [], ◌∷◌, map, filter, refl, sym, ap, subst, ◌∙◌, arith}
use Rattle.std.specs.List.{Contains}
use Rattle.osc_tree.proofs.Lists.{contains_later}

pub head_in : {X : Type 0} (x : X) (xs : List X) → Contains (x ∷ xs) x
head_in x xs = (0, omega arith, refl)

pub head_or_behind : {X : Type 0} (y x : X) (xs : List X) → Contains (y ∷ xs) x → (y ≡ x) ⊎ Contains xs x
head_or_behind y x xs (zero, within, is) = inl is
head_or_behind y x xs (suc k, within, is) = inr (k, omega arith, is)

pub none_in : {X : Type 0} (x : X) → Contains [] x → ⊥
none_in x (k, within, is) = omega arith

-- an element that passes a test
abbrev pub IsPassed : {X : Type 0} → (X → Bool) → List X → X → Type 0
IsPassed test xs x = Contains xs x × (test x ≡ true)

pub passed : {X : Type 0} (test : X → Bool) (xs : List X) (x : X) → Contains (filter test xs) x → IsPassed test xs x
passed test [] x held = absurd (none_in x held)
passed {X} test (y ∷ ys) x held = go (test y) refl held (passed test ys x) where
  more : IsPassed test ys x → IsPassed test (y ∷ ys) x
  more is = (contains_later x y ys is.0, is.1)

  here : test y ≡ true → (y ≡ x) ⊎ Contains (filter test ys) x → (Contains (filter test ys) x → IsPassed test ys x) → IsPassed test (y ∷ ys) x
  here e (inl same) rest = subst (IsPassed test (y ∷ ys)) same (head_in y ys, e)
  here e (inr held) rest = more (rest held)

  go : (t : Bool) → test y ≡ t → Contains (cond t (y ∷ filter test ys) (filter test ys)) x → (Contains (filter test ys) x → IsPassed test ys x)
      → IsPassed test (y ∷ ys) x
  go true e held rest = here e (head_or_behind y x (filter test ys) held) rest
  go false e held rest = more (rest held)

pub passes : {X : Type 0} (test : X → Bool) (xs : List X) (x : X) → Contains xs x → test x ≡ true → Contains (filter test xs) x
passes test [] x held is = held
passes {X} test (y ∷ ys) x held is = go (test y) refl (head_or_behind y x ys held) (λ held. passes test ys x held is) where
  go : (t : Bool) → test y ≡ t → (y ≡ x) ⊎ Contains ys x → (Contains ys x → Contains (filter test ys) x)
      → Contains (cond t (y ∷ filter test ys) (filter test ys)) x
  go true e (inl same) rest = subst (Contains (y ∷ filter test ys)) same (head_in y (filter test ys))
  go true e (inr held) rest = contains_later x y (filter test ys) (rest held)
  go false e (inl same) rest = absurd (let no : test x ≡ false = sym (ap test same) ∙ e in cc)
  go false e (inr held) rest = rest held

pub sent : {X Y : Type 0} (f : X → Y) (xs : List X) (x : X) → Contains xs x → Contains (map f xs) (f x)
sent f [] x held = absurd (none_in x held)
sent {X} {Y} f (y ∷ ys) x held = go (head_or_behind y x ys held) (sent f ys x) where
  go : (y ≡ x) ⊎ Contains ys x → (Contains ys x → Contains (map f ys) (f x)) → Contains (f y ∷ map f ys) (f x)
  go (inl same) rest = subst (λ (z : X). Contains (f y ∷ map f ys) (f z)) same (head_in (f y) (map f ys))
  go (inr held) rest = contains_later (f x) (f y) (map f ys) (rest held)

-- an element that a function sends to another
abbrev pub IsSent : {X Y : Type 0} → (X → Y) → List X → Y → Type 0
IsSent {X} f xs y = (x : X) × Contains xs x × (f x ≡ y)

pub sent_from : {X Y : Type 0} (f : X → Y) (xs : List X) (z : Y) → Contains (map f xs) z → IsSent f xs z
sent_from f [] z held = absurd (none_in z held)
sent_from {X} {Y} f (y ∷ ys) z held = go (head_or_behind (f y) z (map f ys) held) (sent_from f ys z) where
  go : (f y ≡ z) ⊎ Contains (map f ys) z → (Contains (map f ys) z → IsSent f ys z) → IsSent f (y ∷ ys) z
  go (inl same) rest = (y, head_in y ys, same)
  go (inr held) rest = let from = rest held in (from.0, contains_later from.0 y ys from.1, from.2)
