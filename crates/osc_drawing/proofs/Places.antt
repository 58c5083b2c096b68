-- The place before the first that passes a test.
use Rattle.std.proofs.Common.{◌≡◌, ℕ, suc, ◌+◌, ◌≤◌, Bool, true, false, not, cond, List, [], ◌∷◌, length, Some, None, position, nat_lt, refl, arith}
use Rattle.std.specs.List.{position_or_len}
use Rattle.std.proofs.lemmas.Bool.{ltb-false}

pub bound : {X : Type 0} (test : X → Bool) (xs : List X) → position_or_len test xs ≤ length xs
bound test [] = omega arith
bound test (x ∷ xs) = go (test x) (bound test xs) where
  go : (t : Bool) → position_or_len test xs ≤ length xs → cond (not t) (1 + position_or_len test xs) 0 ≤ suc (length xs)
  go true le = omega arith
  go false le = omega arith

pub found : {X : Type 0} (test : X → Bool) (xs : List X) (place : ℕ) → position test xs ≡ Some place → place ≡ position_or_len test xs
found test xs place e = go (nat_lt (position_or_len test xs) (length xs)) e where
  go : (t : Bool) → cond t (Some (position_or_len test xs)) None ≡ Some place → place ≡ position_or_len test xs
  go true e = cc
  go false e = absurd (cc)

pub none : {X : Type 0} (test : X → Bool) (xs : List X) → position test xs ≡ None → length xs ≡ position_or_len test xs
none test xs e = go (nat_lt (position_or_len test xs) (length xs)) refl e where
  go : (t : Bool) → nat_lt (position_or_len test xs) (length xs) ≡ t → cond t (Some (position_or_len test xs)) None ≡ None → length xs ≡ position_or_len test xs
  go true is e = absurd (cc)
  go false is e = omega (arith, ltb-false (position_or_len test xs) (length xs) is, bound test xs)

pub ruleset places = (found, none, bound)
