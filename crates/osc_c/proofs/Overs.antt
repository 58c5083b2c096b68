-- A list that is written over another element after element.
use Rattle.std.proofs.Common.{◌≡◌, ℕ, zero, suc, ◌+◌, ◌<◌, ◌≤◌, Bool, true, false, cond, List, [], ◌∷◌, ◌++◌, take, length, refl, sym, ap, ◌∙◌, arith}
use Rattle.std.proofs.Common.{length-append, append_assoc}
use Rattle.std.specs.Prelude.{nat_lt, slice_set}
use Rattle.std.proofs.lemmas.Bool.{ltb-true, ltb-false}
use Rattle.osc_c.specs.Arguments.{put_at, put_from, written_over}

module _ {X : Type 0} where
  put_in : (xs : List X) (at : ℕ) (x : X) → at < length xs → put_at xs at x ≡ slice_set xs at x
  put_in xs at x small = go (nat_lt at (length xs)) refl where
    go : (t : Bool) → nat_lt at (length xs) ≡ t → cond t (slice_set xs at x) xs ≡ slice_set xs at x
    go true is = refl
    go false is = let large : length xs ≤ at = ltb-false at (length xs) is in absurd (omega (arith, small, large))

  put_out : (xs : List X) (at : ℕ) (x : X) → length xs ≤ at → put_at xs at x ≡ xs
  put_out xs at x large = go (nat_lt at (length xs)) refl where
    go : (t : Bool) → nat_lt at (length xs) ≡ t → cond t (slice_set xs at x) xs ≡ xs
    go true is = let less : at < length xs = ltb-true at (length xs) is in absurd (omega (arith, large, less))
    go false is = refl

  set_front : (front : List X) (x y : X) (xs : List X) → slice_set (front ++ x ∷ xs) (length front) y ≡ front ++ y ∷ xs
  set_front [] x y xs = refl
  set_front (f ∷ front) x y xs = ap (λ (l : List X). f ∷ l) (set_front front x y xs)

  -- nothing is put after the end
  put_beyond : (ys xs : List X) (at : ℕ) → length xs ≤ at → put_from xs at ys ≡ xs
  put_beyond [] xs at large = refl
  put_beyond (y ∷ ys) xs at large = ap (λ (l : List X). put_from l (at + 1) ys) (put_out xs at y large) ∙ put_beyond ys xs (at + 1) (omega (arith, large))

  take_none : (n : ℕ) → take {A = X} n [] ≡ []
  take_none zero = refl
  take_none (suc n) = refl

  put_after : (ys front xs : List X) → put_from (front ++ xs) (length front) ys ≡ front ++ written_over xs ys
  put_after [] front xs = ap (λ (l : List X). front ++ (l ++ xs)) (sym (take_none (length xs)))
  put_after (y ∷ ys) front [] =
      let none : List X = [] in
      put_beyond (y ∷ ys) (front ++ none) (length front) (omega (arith, length-append front none))
  put_after (y ∷ ys) front (x ∷ xs) =
      let size : length front < length (front ++ x ∷ xs) = omega (arith, length-append front (x ∷ xs)) in
      let one : length front + 1 ≡ length (front ++ y ∷ []) = omega (arith, length-append front (y ∷ [])) in
      ap (λ (l : List X). put_from l (length front + 1) ys) (put_in (front ++ x ∷ xs) (length front) y size ∙ set_front front x y xs ∙ sym (append_assoc front (y ∷ []) xs))
      ∙ ap (λ (n : ℕ). put_from ((front ++ y ∷ []) ++ xs) n ys) one
      ∙ put_after ys (front ++ y ∷ []) xs
      ∙ append_assoc front (y ∷ []) (written_over xs ys)

  pub put_all : (xs ys : List X) → put_from xs 0 ys ≡ written_over xs ys
  put_all xs ys = put_after ys [] xs
