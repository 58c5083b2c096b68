-- Texts cut at one byte.
use Rattle.std.proofs.Common.{◌≡◌, ℕ, zero, suc, ◌+◌, ◌≤◌, Bool, true, false, cond, not, nat_lt, Option, Some, None, List, [], ◌∷◌, ◌++◌, length, take}
use Rattle.std.proofs.Common.{drop, refl, arith, sym, ap, ◌∙◌, one-add}
use Rattle.std.specs.Prelude.{All, option_map}
use Rattle.std.specs.List.{list_any, position_or_len, slice_split}
use Rattle.std.proofs.Math.ListN.{get_or, length-append}
use Rattle.std.proofs.Math.Seq.{take-append_seam, drop-append-add}
use Rattle.std.proofs.lemmas.Bool.{ltb-true, ltb-false, or_parts}
use Rattle.std.proofs.lemmas.List.{take_all}
use Rattle.std.proofs.lemmas.List.Sums.{split_at_first, passes_at_first}
use Rattle.std.proofs.lemmas.List.Splits.{slice_split_at, slice_split_none}
use Rattle.std.proofs.lemmas.Bool.Decides.{nat_tests}
use Rattle.osc_pattern.specs.Reading.{cut_at}

-- no element passes
pub All-none : {X : Type 0} (p : X → Bool) (xs : List X) → list_any p xs ≡ false → All (λ x. p x ≡ false) xs
All-none p [] none k d below = absurd (omega arith)
All-none p (x ∷ xs) none zero d below = (or_parts (p x) (list_any p xs) none).0
All-none p (x ∷ xs) none (suc k) d below = All-none p xs (or_parts (p x) (list_any p xs) none).1 k d (omega arith)

none_before : (p : ℕ → Bool) (xs : List ℕ) → list_any p (take (position_or_len p xs) xs) ≡ false
none_before p [] = refl
none_before p (x ∷ xs) = go (p x) refl (none_before p xs) where
  go : (t : Bool) → p x ≡ t → list_any p (take (position_or_len p xs) xs) ≡ false
      → list_any p (take (cond (not t) (1 + position_or_len p xs) 0) (x ∷ xs)) ≡ false
  go true e more = refl
  go false e more = rw one-add (rw e more)

pub none_past : (p : ℕ → Bool) (xs : List ℕ) → length xs ≤ position_or_len p xs → list_any p xs ≡ false
none_past p xs e = ap (list_any p) (sym (take_all (position_or_len p xs) xs e)) ∙ none_before p xs

-- a cut is before the first byte that passes, and after it
abbrev pub CutAt : (ℕ → Bool) → List ℕ → Option (List ℕ × List ℕ) → Type 0
CutAt p bytes None = list_any p bytes ≡ false
CutAt p bytes (Some cut) = (byte : ℕ) × (bytes ≡ cut.0 ++ byte ∷ cut.1) × (p byte ≡ true) × (list_any p cut.0 ≡ false)

pub cut_at-cuts : (p : ℕ → Bool) (bytes : List ℕ) → CutAt p bytes (cut_at p bytes)
cut_at-cuts p bytes = go (nat_lt (position_or_len p bytes) (length bytes)) refl where
  at : ℕ
  at = position_or_len p bytes

  go : (t : Bool) → nat_lt (position_or_len p bytes) (length bytes) ≡ t
      → CutAt p bytes (option_map (λ n. (take n bytes, drop (n + 1) bytes)) (cond t (Some (position_or_len p bytes)) None))
  go true e = let h = ltb-true _ _ e in (get_or bytes (position_or_len p bytes) 0, split_at_first p bytes 0 h, passes_at_first p bytes 0 h, none_before p bytes)
  go false e = none_past p bytes (ltb-false _ _ e)

position_or_len-at : (p : ℕ → Bool) (xs : List ℕ) (y : ℕ) (ys : List ℕ) → list_any p xs ≡ false → p y ≡ true → position_or_len p (xs ++ y ∷ ys) ≡ length xs
position_or_len-at p [] y ys none at = rw at refl
position_or_len-at p (x ∷ xs) y ys none at =
    let both = or_parts (p x) (list_any p xs) none in
    rw (both.0, position_or_len-at p xs y ys both.1 at) (omega arith)

-- a text is cut at its first byte that passes
pub cut_at-first : (p : ℕ → Bool) (xs : List ℕ) (y : ℕ) (ys : List ℕ) → list_any p xs ≡ false → p y ≡ true → cut_at p (xs ++ y ∷ ys) ≡ Some (xs, ys)
cut_at-first p xs y ys none at =
    let e = position_or_len-at p xs y ys none at in
    let l : nat_lt (length xs) (length (xs ++ y ∷ ys)) ≡ true = grind (arith, nat_tests, length-append xs (y ∷ ys)) in
    rw (e, l, take-append_seam xs (y ∷ ys), drop-append-add xs (y ∷ ys) 1) refl

-- the first part of a text that is cut at each byte that passes
abbrev pub FirstPart : (ℕ → Bool) → List ℕ → Option (List ℕ × List ℕ) → Type 0
FirstPart p bytes None = slice_split p bytes ≡ bytes ∷ []
FirstPart p bytes (Some cut) = (slice_split p bytes ≡ cut.0 ∷ slice_split p cut.1) × (length cut.0 + (1 + length cut.1) ≡ length bytes)

pub cut_at-part : (p : ℕ → Bool) (bytes : List ℕ) → FirstPart p bytes (cut_at p bytes)
cut_at-part p bytes = go (cut_at p bytes) (cut_at-cuts p bytes) where
  go : (o : Option (List ℕ × List ℕ)) → CutAt p bytes o → FirstPart p bytes o
  go None none = slice_split_none p bytes (All-none p bytes none)
  go (Some (before, after)) (byte, spelled, at, none) =
      (rw spelled (slice_split_at p before byte after (All-none p before none) at), rw spelled (omega (arith, length-append before (byte ∷ after))))
