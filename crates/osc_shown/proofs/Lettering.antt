-- How the characters of a text are shown.
use Rattle.std.proofs.Common.{◌≡◌, ◌+◌, ℕ, zero, suc, Bool, true, false, List, [], ◌∷◌, ◌++◌, length, min, take, nat_le, nat_lt, refl, sym, ap, ◌∙◌}
use Rattle.std.proofs.Common.{append_assoc, arith, inl, inr}
use Rattle.std.proofs.lemmas.Bool.{cases_Bool}
use Rattle.std.proofs.lemmas.Str.{IsUtf8-from_is_utf8, is_utf8-from_IsUtf8}
use Rattle.osc_shown.specs.Texts.{quoted, quoted_text, quoted_bytes, all_shown, shown_char, shown_byte}
use Rattle.std.proofs.lemmas.Bool.Decides.{nat_tests}
use Rattle.std.specs.Prelude.{if◌then◌else◌, IsUtf8, chars}
use Rattle.std.specs.Str.{is_utf8}
use Rattle.std.specs.List.{flat_map}
use Rattle.std.proofs.lemmas.List.{append-nil, length-append}

-- nothing is below zero
none_below : (n : ℕ) → nat_lt n 0 ≡ false
none_below n = grind (arith, nat_tests)

-- nothing is taken from nothing
none_taken : (most : ℕ) → take {A = ℕ} most [] ≡ []
none_taken zero = refl
none_taken (suc most) = refl

-- zero is below any other
first_below : (n : ℕ) → nat_lt 0 (suc n) ≡ true
first_below n = grind (arith, nat_tests)

-- one more on both sides
both_more : (m n : ℕ) → nat_lt (suc m) (suc n) ≡ nat_lt m n
both_more m n = grind (arith, nat_tests)

-- of a list with one more, the first so many are shown: the one more, if fewer stand before it
pub shown_on : (f : ℕ → List ℕ) (most : ℕ) (done : List ℕ) (letter : ℕ)
    → flat_map f (take most (done ++ letter ∷ [])) ≡ flat_map f (take most done) ++ (if nat_lt (length done) most then f letter else [])
shown_on f zero [] letter = refl
shown_on f zero (first ∷ done) letter =
    sym (ap (λ (b : Bool). if b then f letter else []) (none_below (suc (length done))))
shown_on f (suc most) [] letter =
    ap (λ (l : List ℕ). f letter ++ flat_map f l) (none_taken most) ∙ append-nil (f letter)
    ∙ sym (ap (λ (b : Bool). if b then f letter else []) (first_below most))
shown_on f (suc most) (first ∷ done) letter =
    ap (λ (l : List ℕ). f first ++ l) (shown_on f most done letter)
    ∙ sym (append_assoc (f first) (flat_map f (take most done)) (if nat_lt (length done) most then f letter else []))
    ∙ ap (λ (b : Bool). (f first ++ flat_map f (take most done)) ++ (if b then f letter else [])) (sym (both_more (length done) most))

-- fewer than 40 stand before it, or fewer than 40 are counted
pub below : (count size : ℕ) → count ≡ min 41 size → nat_lt count 40 ≡ nat_lt size 40
below count size is = grind (arith, nat_tests, is)

-- the same where the count of those before it stops at 41
pub counted_on : (f : ℕ → List ℕ) (done : List ℕ) (letter count : ℕ) → count ≡ min 41 (length done)
    → flat_map f (take 40 (done ++ letter ∷ [])) ≡ flat_map f (take 40 done) ++ (if nat_lt count 40 then f letter else [])
counted_on f done letter count is =
    shown_on f 40 done letter
    ∙ ap (λ (b : Bool). flat_map f (take 40 done) ++ (if b then f letter else [])) (sym (below count (length done) is))

-- at most 40 are counted, or there are at most 40
pub at_most : (count size : ℕ) → count ≡ min 41 size → nat_le count 40 ≡ nat_le size 40
at_most count size is = grind (arith, nat_tests, is)

-- one more is counted
pub one_counted : (count : ℕ) (done : List ℕ) (letter : ℕ) → count ≡ min 41 (length done)
    → min 41 (count + 1) ≡ min 41 (length (done ++ letter ∷ []))
one_counted count done letter is = omega (arith, is, length-append done (letter ∷ []))

-- a text that is UTF-8 is quoted by its characters
pub as_text : (bytes text : List ℕ) → text ≡ bytes → IsUtf8 bytes → quoted_text text ≡ quoted bytes
as_text bytes text same is =
    ap quoted_text same
    ∙ sym (ap (λ (b : Bool). if b then quoted_text bytes else quoted_bytes bytes) (is_utf8-from_IsUtf8 bytes is))

-- any other by its bytes
pub as_bytes : (bytes : List ℕ) → (IsUtf8 bytes → ⊥) → quoted_bytes bytes ≡ quoted bytes
as_bytes bytes isnt = elim (cases_Bool (is_utf8 bytes)) [
  | inl is ↦ absurd (isnt (IsUtf8-from_is_utf8 bytes is))
  | inr is ↦ sym (ap (λ (b : Bool). if b then quoted_text bytes else quoted_bytes bytes) is)
]

-- one more is shown after all
pub all_on : (f : ℕ → List ℕ) (done : List ℕ) (letter : ℕ) → flat_map f (done ++ letter ∷ []) ≡ flat_map f done ++ f letter
all_on f [] letter = append-nil (f letter)
all_on f (first ∷ done) letter =
    ap (λ (l : List ℕ). f first ++ l) (all_on f done letter) ∙ sym (append_assoc (f first) (flat_map f done) (f letter))

-- a text that is UTF-8 is shown by its characters
pub all_as_text : (bytes text : List ℕ) → text ≡ bytes → IsUtf8 bytes → flat_map shown_char (chars text) ≡ all_shown bytes
all_as_text bytes text same is =
    ap (λ (l : List ℕ). flat_map shown_char (chars l)) same
    ∙ sym (ap (λ (b : Bool). if b then flat_map shown_char (chars bytes) else flat_map shown_byte bytes) (is_utf8-from_IsUtf8 bytes is))

-- any other by its bytes
pub all_as_bytes : (bytes : List ℕ) → (IsUtf8 bytes → ⊥) → flat_map shown_byte bytes ≡ all_shown bytes
all_as_bytes bytes isnt = elim (cases_Bool (is_utf8 bytes)) [
  | inl is ↦ absurd (isnt (IsUtf8-from_is_utf8 bytes is))
  | inr is ↦ sym (ap (λ (b : Bool). if b then flat_map shown_char (chars bytes) else flat_map shown_byte bytes) is)
]
