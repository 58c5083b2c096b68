-- How the digits of any number begin and end.
use Rattle.std.proofs.Common.{◌≡◌, ℕ, zero, suc, ◌+◌, ◌*◌, ◌/◌, ◌%◌, ◌^◌, ◌<◌, ◌≤◌, ◌==◌, Bool, true, false, cond, nat_lt, List, [], ◌∷◌, ◌++◌, length, refl, sym, ◌∙◌}
use Rattle.std.proofs.Common.{arith, eqb-true, append_assoc, nat_le, ap, ◌&&◌}
use Rattle.std.specs.List.{list_all}
use Rattle.std.proofs.lemmas.Bool.Decides.{nat_tests}
use Rattle.std.specs.Fmt.{decimal, digits, digits_onto, digit_glyph}
use Rattle.jiff_fmt.proofs.ReaderLemmas.{ten_pow-pos}

-- digits stand before what was written
onto_before : (k number : ℕ) (after : List ℕ) → (front : List ℕ) × (digits_onto k 10 false number after ≡ front ++ after)
onto_before zero number after = ([], refl)
onto_before (suc k) number after =
    go (number / 10 == 0) (onto_before k (number / 10) (digit_glyph false (number % 10) ∷ after)) where
      go : (t : Bool)
          → (front : List ℕ) × (digits_onto k 10 false (number / 10) (digit_glyph false (number % 10) ∷ after) ≡ front ++ digit_glyph false (number % 10) ∷ after)
          → (front : List ℕ) × (cond t (digit_glyph false (number % 10) ∷ after) (digits_onto k 10 false (number / 10) (digit_glyph false (number % 10) ∷ after)) ≡ front ++ after)
      go true later = (digit_glyph false (number % 10) ∷ [], refl)
      go false later = (
        later.0 ++ digit_glyph false (number % 10) ∷ [],
        later.1 ∙ sym (append_assoc later.0 (digit_glyph false (number % 10) ∷ []) after),
      )

-- the last digit is one
pub record EndsInDigit (text : List ℕ) : Type 0 where
  pub front : List ℕ
  pub last : ℕ
  pub is : text ≡ front ++ last ∷ []
  pub digit : 48 ≤ last

glyph : (digit : ℕ) → 48 ≤ digit_glyph false digit
glyph digit = go (nat_lt digit 10) where
  go : (t : Bool) → 48 ≤ cond t (48 + digit) (87 + digit)
  go true = omega arith
  go false = omega arith

pub decimal_ends : (number : ℕ) → EndsInDigit (decimal number)
unfolding digits
decimal_ends number = go (number / 10 == 0) (onto_before 63 (number / 10) (digit_glyph false (number % 10) ∷ [])) where
  go : (t : Bool)
      → (front : List ℕ) × (digits_onto 63 10 false (number / 10) (digit_glyph false (number % 10) ∷ []) ≡ front ++ digit_glyph false (number % 10) ∷ [])
      → EndsInDigit (cond t (digit_glyph false (number % 10) ∷ []) (digits_onto 63 10 false (number / 10) (digit_glyph false (number % 10) ∷ [])))
  go true later = record { front = []; last = digit_glyph false (number % 10); is = refl; digit = glyph (number % 10) }
  go false later = record { front = later.0; last = digit_glyph false (number % 10); is = later.1; digit = glyph (number % 10) }

-- none is a space
onto_solid : (k number : ℕ) (after : List ℕ) → list_all (nat_le 33) after ≡ true → list_all (nat_le 33) (digits_onto k 10 false number after) ≡ true
onto_solid zero number after all = all
onto_solid (suc k) number after all =
    let one = glyph (number % 10) in
    let large : nat_le 33 (digit_glyph false (number % 10)) ≡ true = grind (arith, nat_tests) in
    let more : list_all (nat_le 33) (digit_glyph false (number % 10) ∷ after) ≡ true =
    ap (λ (b : Bool). b && list_all (nat_le 33) after) large ∙ all in
    go (number / 10 == 0) more (onto_solid k (number / 10) (digit_glyph false (number % 10) ∷ after) more) where
      go : (t : Bool) → list_all (nat_le 33) (digit_glyph false (number % 10) ∷ after) ≡ true
          → list_all (nat_le 33) (digits_onto k 10 false (number / 10) (digit_glyph false (number % 10) ∷ after)) ≡ true
          → list_all (nat_le 33)
          (cond t (digit_glyph false (number % 10) ∷ after) (digits_onto k 10 false (number / 10) (digit_glyph false (number % 10) ∷ after)))
          ≡ true
      go true one all = one
      go false one all = all

pub decimal_solid : (number : ℕ) → list_all (nat_le 33) (decimal number) ≡ true
unfolding digits
decimal_solid number = onto_solid 64 number [] refl

-- as many digits are written at least as a number has
onto_more : (k number : ℕ) (after : List ℕ) → length after ≤ length (digits_onto k 10 false number after)
onto_more zero number after = omega arith
onto_more (suc k) number after = go (number / 10 == 0) (onto_more k (number / 10) (digit_glyph false (number % 10) ∷ after)) where
  go : (t : Bool)
      → suc (length after) ≤ length (digits_onto k 10 false (number / 10) (digit_glyph false (number % 10) ∷ after))
      → length after ≤ length (cond t (digit_glyph false (number % 10) ∷ after) (digits_onto k 10 false (number / 10) (digit_glyph false (number % 10) ∷ after)))
  go true later = omega arith
  go false later = omega arith

power_step : (j : ℕ) → 10 ^ suc j ≡ 10 * 10 ^ j
power_step j = omega arith

onto_many : (j k number : ℕ) (after : List ℕ) → j < k → 10 ^ j ≤ number → length after + j < length (digits_onto k 10 false number after)
onto_many j zero number after room large = absurd (omega arith)
onto_many zero (suc k) number after room large = go (number / 10 == 0) (onto_more k (number / 10) (digit_glyph false (number % 10) ∷ after)) where
  go : (t : Bool)
      → suc (length after) ≤ length (digits_onto k 10 false (number / 10) (digit_glyph false (number % 10) ∷ after))
      → length after + 0 < length (cond t (digit_glyph false (number % 10) ∷ after) (digits_onto k 10 false (number / 10) (digit_glyph false (number % 10) ∷ after)))
  go true later = omega arith
  go false later = omega arith
onto_many (suc j) (suc k) number after room large =
    go (number / 10 == 0) refl
    (onto_many j k (number / 10) (digit_glyph false (number % 10) ∷ after) (omega arith) (omega (arith, large, power_step j))) where
      go : (t : Bool) → (number / 10 == 0) ≡ t
          → suc (length after) + j < length (digits_onto k 10 false (number / 10) (digit_glyph false (number % 10) ∷ after))
          → length after + suc j < length (cond t (digit_glyph false (number % 10) ∷ after) (digits_onto k 10 false (number / 10) (digit_glyph false (number % 10) ∷ after)))
      go true is later = absurd (omega (arith, eqb-true (number / 10) 0 is, large, power_step j, some j)) where
        some : (j : ℕ) → 0 < 10 ^ j
        some j = ten_pow-pos j
      go false is later = omega arith

-- a number of 64 bits or more has 20 digits or more
pub decimal_long : (number : ℕ) → 2 ^ 64 ≤ number → 19 < length (decimal number)
unfolding digits
decimal_long number large = onto_many 19 64 number [] (omega arith) (omega arith)
