-- Numbers in decimal are read as these.
use Rattle.std.proofs.Common.{◌≡◌, ◌⊎◌, inl, inr, ℕ, suc, ◌+◌, ◌-◌, ◌/◌, ◌%◌, ◌^◌, ◌<◌, ◌≤◌, ◌==◌, ◌&&◌, Bool, true, false, cond, min, nat_lt, nat_le, List, [], ◌∷◌, ◌++◌, length, Option, None, Ok, refl, sym, ap, subst, ◌∙◌}
use Rattle.std.proofs.Common.{arith, eqb-true}
use Rattle.std.specs.Prelude.{ℤ, pos, negsuc, FitsSigned}
use Rattle.std.specs.Char.{is_ascii_digit}
use Rattle.std.specs.Fmt.{decimal, signed_decimal}
use Rattle.std.specs.Int.{w32, w64}
use Rattle.std.specs.List.{list_all}
use Rattle.std.specs.Str.Parse.{digits_value}
use Rattle.std.proofs.lemmas.Bool.{cond-true}
use Rattle.std.proofs.lemmas.Bool.Decides.{nat_tests}
use Rattle.std.proofs.lemmas.Fmt.{decimal_by_steps, decimal_is_IsNumeral}
use Rattle.osc_cues.specs.declared.fault.Fault.{Fault}
use Rattle.osc_cues.specs.Numbers.{are_digits, has_minus, without_minus, is_whole, has_zero_first, size_of, signed, is_within, int_of, long_of, whole_fault, int_unless, int_read, long_unless, long_read}

-- these are the digits of a number, of which the first isn't zero unless it is the only one
pub record AreDigits (number : ℕ) (digits : List ℕ) : Type 0 where
  pub first : ℕ
  pub rest : List ℕ
  pub are : digits ≡ first ∷ rest
  pub all : list_all is_ascii_digit digits ≡ true
  pub lead : 0 < number → 48 < first
  pub many : (rest ≡ []) ⊎ (0 < number)

digit_small : (digit : ℕ) → digit < 10 → is_ascii_digit (48 + digit) ≡ true
digit_small digit small = grind (arith, nat_tests)

one_more : (digits : List ℕ) (digit : ℕ) → list_all is_ascii_digit digits ≡ true → is_ascii_digit digit ≡ true
    → list_all is_ascii_digit (digits ++ digit ∷ []) ≡ true
one_more [] digit all one = ap (λ (b : Bool). b && true) one
one_more (first ∷ digits) digit all one = go (is_ascii_digit first) all (one_more digits digit) where
  go : (t : Bool) → (t && list_all is_ascii_digit digits) ≡ true
      → (list_all is_ascii_digit digits ≡ true → is_ascii_digit digit ≡ true → list_all is_ascii_digit (digits ++ digit ∷ []) ≡ true)
      → (t && list_all is_ascii_digit (digits ++ digit ∷ [])) ≡ true
  go true rest later = later rest one
  go false rest later = absurd (cc)

one_digit : (number : ℕ) → number < 10 → AreDigits number ((48 + number) ∷ [])
one_digit number small = record {
  first = 48 + number;
  rest = [];
  are = refl;
  all = ap (λ (b : Bool). b && true) (digit_small number small);
  lead = λ some. omega arith;
  many = inl refl;
}

next_digit : (number : ℕ) (digits : List ℕ) → 10 ≤ number → AreDigits (number / 10) digits → AreDigits number (digits ++ (48 + number % 10) ∷ [])
next_digit number digits large so =
    let last : ℕ = 48 + number % 10 in
    record {
      first = so.first;
      rest = so.rest ++ last ∷ [];
      are = ap (λ (l : List ℕ). l ++ last ∷ []) so.are;
      all = one_more digits last so.all (digit_small (number % 10) (omega arith));
      lead = λ some. so.lead (omega arith);
      many = inr (omega arith);
    }

pub digits_are : (number : ℕ) → number < 2 ^ 64 → AreDigits number (decimal number)
digits_are = decimal_by_steps AreDigits one_digit next_digit

pub first_digit : (first : ℕ) (rest : List ℕ) → list_all is_ascii_digit (first ∷ rest) ≡ true → (48 ≤ first) × (first ≤ 57)
first_digit first rest all = go (is_ascii_digit first) refl all where
  go : (t : Bool) → is_ascii_digit first ≡ t → (t && list_all is_ascii_digit rest) ≡ true → (48 ≤ first) × (first ≤ 57)
  go true is all = (grind (arith, nat_tests), grind (arith, nat_tests))
  go false is all = absurd (cc)

-- a number's digits, as a word that is read
pub record IsNumeral (number : ℕ) (digits : List ℕ) : Type 0 where
  pub all : are_digits digits ≡ true
  pub minus : has_minus digits ≡ false
  pub bare : without_minus digits ≡ digits
  pub lead : has_zero_first digits ≡ false
  pub size : size_of digits ≡ number

not_minus : (first : ℕ) → 48 ≤ first → first == 45 ≡ false
not_minus first large = grind (arith, nat_tests)

no_zero : (first : ℕ) (rest : List ℕ) → (rest ≡ []) ⊎ (48 < first) → has_zero_first (first ∷ rest) ≡ false
no_zero first [] lead = refl
no_zero first (next ∷ rest) (inl none) = absurd (cc)
no_zero first (next ∷ rest) (inr large) = grind (arith, nat_tests)

same_size : (number : ℕ) → number < 2 ^ 64 → min (2 ^ 64 - 1) number ≡ number
same_size number small = omega arith

some_all : (digits : List ℕ) → 0 < length digits → list_all is_ascii_digit digits ≡ true → are_digits digits ≡ true
some_all digits some all = go (nat_lt 0 (length digits)) (list_all is_ascii_digit digits) (grind (arith, nat_tests)) all where
  go : (t u : Bool) → t ≡ true → u ≡ true → (t && u) ≡ true
  go true true one two = refl
  go true false one two = absurd (cc)
  go false u one two = absurd (cc)

numeral_of : (number : ℕ) (digits : List ℕ) → AreDigits number digits → digits_value 10 digits ≡ number → number < 2 ^ 64 → IsNumeral number digits
numeral_of number digits so value small =
    subst (IsNumeral number) (sym so.are) (record {
      all = some_all word (omega arith) all;
      minus = not_minus so.first (first_digit so.first so.rest all).0;
      bare = ap (λ (b : Bool). cond b so.rest word) (not_minus so.first (first_digit so.first so.rest all).0);
      lead = no_zero so.first so.rest (lead so.many);
      size = ap (λ (n : ℕ). min (2 ^ 64 - 1) n) (subst (λ (l : List ℕ). digits_value 10 l ≡ number) so.are value) ∙ same_size number small;
    }) where
      word : List ℕ
      word = so.first ∷ so.rest

      all : list_all is_ascii_digit word ≡ true
      all = subst (λ (l : List ℕ). list_all is_ascii_digit l ≡ true) so.are so.all

      lead : (so.rest ≡ []) ⊎ (0 < number) → (so.rest ≡ []) ⊎ (48 < so.first)
      lead (inl none) = inl none
      lead (inr some) = inr (so.lead some)

pub numeral : (number : ℕ) → number < 2 ^ 64 → IsNumeral number (decimal number)
numeral number small = numeral_of number (decimal number) (digits_are number small) (decimal_is_IsNumeral number small).1 small

below : (bound number : ℕ) → number < bound → nat_lt number bound ≡ true
below bound number small = grind (arith, nat_tests)

at_most : (bound number : ℕ) → number ≤ bound → nat_le number bound ≡ true
at_most bound number small = grind (arith, nat_tests)

-- the sign and the size of a word that is a whole number
record IsSigned (below : Bool) (size : ℕ) (word : List ℕ) : Type 0 where
  sound : is_whole word ≡ true
  lead : has_zero_first (without_minus word) ≡ false
  minus : has_minus word ≡ below
  size_is : size_of (without_minus word) ≡ size

positive : (number : ℕ) (digits : List ℕ) → IsNumeral number digits → IsSigned false number digits
positive number digits is = record {
  sound = ap are_digits is.bare ∙ is.all;
  lead = ap has_zero_first is.bare ∙ is.lead;
  minus = is.minus;
  size_is = ap size_of is.bare ∙ is.size;
}

negative : (number : ℕ) (digits : List ℕ) → IsNumeral number digits → IsSigned true number (45 ∷ digits)
negative number digits is = record { sound = is.all; lead = is.lead; minus = refl; size_is = is.size }

no_fault : (below : Bool) (size : ℕ) (word : List ℕ) → IsSigned below size word → whole_fault word ≡ None
no_fault below size word is = rw (is.sound, is.lead) refl

within_32 : (less : Bool) (size at : ℕ) → is_within (2 ^ 31) less size ≡ true → int_of at less size ≡ Ok (signed less size)
within_32 less size at within = cond-true _ _ _ within

within_64 : (less : Bool) (size at : ℕ) → is_within (2 ^ 63) less size ≡ true → long_of at less size ≡ Ok (signed less size)
within_64 less size at within = cond-true _ _ _ within

int_again : (at : ℕ) (less : Bool) (size : ℕ) (word : List ℕ) → IsSigned less size word → is_within (2 ^ 31) less size ≡ true
    → int_read at word ≡ Ok (signed less size)
int_again at less size word is within =
    ap (λ (fault : Option Fault). int_unless fault at word) (no_fault less size word is)
    ∙ ap (λ (b : Bool). int_of at b (size_of (without_minus word))) is.minus
    ∙ ap (int_of at less) is.size_is
    ∙ within_32 less size at within

long_again : (at : ℕ) (less : Bool) (size : ℕ) (word : List ℕ) → IsSigned less size word → is_within (2 ^ 63) less size ≡ true
    → long_read at word ≡ Ok (signed less size)
long_again at less size word is within =
    ap (λ (fault : Option Fault). long_unless fault at word) (no_fault less size word is)
    ∙ ap (λ (b : Bool). long_of at b (size_of (without_minus word))) is.minus
    ∙ ap (long_of at less) is.size_is
    ∙ within_64 less size at within

negative_is : (number : ℕ) → signed true (suc number) ≡ negsuc number
negative_is number = go (suc number == 0) refl where
  same : suc number - 1 ≡ number
  same = omega arith

  go : (t : Bool) → suc number == 0 ≡ t → cond t (pos 0) (negsuc (suc number - 1)) ≡ negsuc number
  go true is = absurd (omega (arith, eqb-true (suc number) 0 is))
  go false is = ap negsuc same

pub int_32 : (at : ℕ) (number : ℤ) → FitsSigned w32 number → int_read at (signed_decimal number) ≡ Ok number
int_32 at (pos number) fits =
    int_again at false number (decimal number) (positive number (decimal number) (numeral number (omega (arith, fits.sfits))))
    (below (2 ^ 31) number (omega (arith, fits.sfits)))
int_32 at (negsuc number) fits =
    int_again at true (suc number) (45 ∷ decimal (suc number)) (negative (suc number) (decimal (suc number)) (numeral (suc number) (omega (arith, fits.sfits))))
    (at_most (2 ^ 31) (suc number) (omega (arith, fits.sfits)))
    ∙ ap (λ (n : ℤ). Ok n) (negative_is number)

pub long_64 : (at : ℕ) (number : ℤ) → FitsSigned w64 number → long_read at (signed_decimal number) ≡ Ok number
long_64 at (pos number) fits =
    long_again at false number (decimal number) (positive number (decimal number) (numeral number (omega (arith, fits.sfits))))
    (below (2 ^ 63) number (omega (arith, fits.sfits)))
long_64 at (negsuc number) fits =
    long_again at true (suc number) (45 ∷ decimal (suc number)) (negative (suc number) (decimal (suc number)) (numeral (suc number) (omega (arith, fits.sfits))))
    (at_most (2 ^ 63) (suc number) (omega (arith, fits.sfits)))
    ∙ ap (λ (n : ℤ). Ok n) (negative_is number)

-- these are whole numbers
pub whole_word : (number : ℕ) → number < 2 ^ 64 → is_whole (decimal number) ≡ true
whole_word number small = (positive number (decimal number) (numeral number small)).sound

pub whole_below : (number : ℕ) → number < 2 ^ 64 → is_whole (45 ∷ decimal number) ≡ true
whole_below number small = (numeral number small).all
