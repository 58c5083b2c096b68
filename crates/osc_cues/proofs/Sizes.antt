-- What digits of a number that is too large are read as.
use Rattle.std.proofs.Common.{◌≡◌, ℕ, zero, suc, ◌+◌, ◌-◌, ◌<◌, ◌≤◌, ◌^◌, ◌&&◌, Bool, true, false, nat_lt, min, List, length, rules}
use Rattle.std.proofs.Common.{Result, Ok, Err, refl, ap, arith}
use Rattle.std.proofs.lemmas.Int.Digits.{digits_value-lt}
use Rattle.std.proofs.lemmas.Grind.{pow_more}
use Rattle.std.specs.Char.{is_ascii_digit}
use Rattle.std.specs.List.{list_all}
use Rattle.std.specs.Result.{OkIff}
use Rattle.std.specs.Str.Parse.{digits_value, ParsesUnsigned}
use Rattle.std.proofs.lemmas.Str.Parse.{IsDigitsTest, IsNumeralModel, numerals_by_value, parse_digits}
use Rattle.std.proofs.lemmas.Bool.Decides.{nat_tests}
use Rattle.osc_cues.specs.Numbers.{are_digits, size_of}

tells_digits : IsDigitsTest (λ ds. list_all is_ascii_digit ds ≡ true)
tells_digits = search rules

digits : IsNumeralModel (λ ds. list_all is_ascii_digit ds ≡ true) (digits_value 10)
digits = numerals_by_value (λ ds. list_all is_ascii_digit ds ≡ true) tells_digits

low_if : (n : ℕ) → nat_lt n (2 ^ 64) ≡ true → n < 2 ^ 64
low_if n lt = grind (arith, nat_tests)

some_if : (n : ℕ) → nat_lt 0 n ≡ true → 0 < n
some_if n lt = grind (arith, nat_tests)

high : (n : ℕ) → ¬ (n < 2 ^ 64) → 2 ^ 64 - 1 ≡ min (2 ^ 64 - 1) n
high n more = go (nat_lt n (2 ^ 64)) refl where
  go : (t : Bool) → nat_lt n (2 ^ 64) ≡ t → 2 ^ 64 - 1 ≡ min (2 ^ 64 - 1) n
  go true lt = absurd (more (low_if n lt))
  go false lt = grind (arith, nat_tests)

pub too_large : {E : Type 0} (word : List ℕ) (e : E) → ParsesUnsigned 64 10 word (Err e) → are_digits word ≡ true
    → 2 ^ 64 - 1 ≡ size_of word
too_large word e none are = go (nat_lt 0 (length word)) (list_all is_ascii_digit word) refl refl are where
  go : (t u : Bool) → nat_lt 0 (length word) ≡ t → list_all is_ascii_digit word ≡ u → (t && u) ≡ true → 2 ^ 64 - 1 ≡ size_of word
  go false u some all is = absurd (cc)
  go true false some all is = absurd (cc)
  go true true some all is =
      let more = parse_digits digits 64 word (Err e) none all in
      high (digits_value 10 word) (λ low. more (some_if (length word) some, low))

-- Few digits write a small number.

power_more : (j k : ℕ) → 10 ^ k ≤ 10 ^ (k + j)
power_more zero k = let same : k + 0 ≡ k = omega arith in omega (arith, ap (λ (n : ℕ). 10 ^ n) same)
power_more (suc j) k =
    let same : k + suc j ≡ (k + j) + 1 = omega arith in
    omega (arith, power_more j k, pow_more 10 (k + j), ap (λ (n : ℕ). 10 ^ n) same)

power_few : (k : ℕ) → k ≤ 9 → 10 ^ k ≤ 10 ^ 9
power_few k few = let same : k + (9 - k) ≡ 9 = omega arith in omega (arith, power_more (9 - k) k, ap (λ (n : ℕ). 10 ^ n) same)

pub record AreFew (word : List ℕ) : Type 0 where
  pub some : 0 < length word
  pub all : list_all is_ascii_digit word ≡ true
  pub small : digits_value 10 word < 10 ^ 9

few_small : (word : List ℕ) → list_all is_ascii_digit word ≡ true → length word ≤ 9 → digits_value 10 word < 10 ^ 9
few_small word all few = omega (arith, digits_value-lt 10 word (digits.to word all), power_few (length word) few)

are_few : (word : List ℕ) → are_digits word ≡ true → length word ≤ 9 → AreFew word
are_few word are few = go (nat_lt 0 (length word)) (list_all is_ascii_digit word) refl refl are where
  go : (t u : Bool) → nat_lt 0 (length word) ≡ t → list_all is_ascii_digit word ≡ u → (t && u) ≡ true → AreFew word
  go false u some all is = absurd (cc)
  go true false some all is = absurd (cc)
  go true true some all is = record { some = some_if (length word) some; all = all; small = few_small word all few }

-- what few digits are read as
abbrev pub AreRead : {E : Type 0} → List ℕ → Result ℕ E → Type 0
AreRead word (Ok number) = (number ≡ digits_value 10 word) × (number < 10 ^ 9)
AreRead word (Err error) = ⊥

digits_read : {E : Type 0} (word : List ℕ) (r : Result ℕ E) → ParsesUnsigned 64 10 word r → list_all is_ascii_digit word ≡ true
    → OkIff r ((0 < length word) × (digits_value 10 word < 2 ^ 64)) (digits_value 10 word)
digits_read word r parses all = parse_digits digits 64 word r parses all

told : {E : Type 0} (word : List ℕ) (r : Result ℕ E) → AreFew word
    → OkIff r ((0 < length word) × (digits_value 10 word < 2 ^ 64)) (digits_value 10 word) → AreRead word r
told word (Ok number) is read = (read.1, omega (arith, read.1, is.small))
told word (Err error) is read = read (is.some, omega (arith, is.small))

pub few_read : {E : Type 0} (word : List ℕ) (r : Result ℕ E) → ParsesUnsigned 64 10 word r → are_digits word ≡ true → length word ≤ 9
    → AreRead word r
few_read word r parses are few = let is = are_few word are few in told word r is (digits_read word r parses is.all)

pub few_ok : (word : List ℕ) (number : ℕ) → ParsesUnsigned {E = Unit {0}} 64 10 word (Ok number) → are_digits word ≡ true → length word ≤ 9
    → (number ≡ digits_value 10 word) × (number < 10 ^ 9)
few_ok word number parses are few = few_read {E = Unit {0}} word (Ok number) parses are few
