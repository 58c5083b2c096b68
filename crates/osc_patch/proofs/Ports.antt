-- What the digits of a port are read as.
use Rattle.std.proofs.Common.{◌≡◌, ℕ, ◌<◌, ◌^◌, ◌&&◌, Bool, true, false, cond, nat_lt, List, [], ◌∷◌, length, rules, Result, Err, Some, None, refl, arith}
use Rattle.std.proofs.Common.{slice_index_or}
use Rattle.std.specs.Char.{is_ascii_digit}
use Rattle.std.specs.Result.{OkIff}
use Rattle.std.specs.Str.Parse.{digits_value, ParsesUnsigned}
use Rattle.std.proofs.lemmas.Str.Parse.{IsDigitsTest, IsNumeralModel, numerals_by_value, parse_digits}
use Rattle.std.specs.Str.{IsUtf8}
use Rattle.std.proofs.lemmas.Bool.Decides.{nat_tests}
use Rattle.std.proofs.lemmas.List.Sums.{AllPass-from_list_all}
use Rattle.std.proofs.lemmas.Str.{IsUtf8-from_ascii}
use Rattle.std.proofs.lemmas.Str.Ascii.{IsAscii-from_all}
use Rattle.osc_patch.specs.Hosts.{all_digits, within_ports, port_of}

tells_digits : IsDigitsTest (λ ds. all_digits ds ≡ true)
tells_digits = search rules

pub digits : IsNumeralModel (λ ds. all_digits ds ≡ true) (digits_value 10)
digits = numerals_by_value (λ ds. all_digits ds ≡ true) tells_digits

pub read : {E : Type 0} (word : List ℕ) (r : Result ℕ E) → ParsesUnsigned 16 10 word r → all_digits word ≡ true
    → OkIff r ((0 < length word) × (digits_value 10 word < 2 ^ 16)) (digits_value 10 word)
read word r parses is = parse_digits digits 16 word r parses is

low_if : (n : ℕ) → nat_lt n 65536 ≡ true → n < 2 ^ 16
low_if n lt = grind (arith, nat_tests)

pub not_read : {E : Type 0} (word : List ℕ) (e : E) → ParsesUnsigned 16 10 word (Err e) → all_digits word ≡ true
    → None ≡ within_ports (digits_value 10 word)
not_read [] e none is = refl
not_read (first ∷ word) e none is = let more = read (first ∷ word) (Err e) none is in
    high (digits_value 10 (first ∷ word)) (λ low. more (omega arith, low))
  where
    high : (n : ℕ) → ¬ (n < 2 ^ 16) → None ≡ within_ports n
    high n more = go (nat_lt n 65536) refl (nat_lt 0 n) where
      go : (t : Bool) → nat_lt n 65536 ≡ t → (some : Bool) → None ≡ cond (some && t) (Some n) None
      go true lt some = absurd (more (low_if n lt))
      go false lt true = refl
      go false lt false = refl

-- digits are text
digit_low : (byte : ℕ) → is_ascii_digit byte ≡ true → byte < 128
digit_low byte is = grind (arith, nat_tests)

utf8 : (word : List ℕ) → all_digits word ≡ true → IsUtf8 word
utf8 word are = IsUtf8-from_ascii word
    (IsAscii-from_all word (λ k d lt. digit_low (slice_index_or word k d) (AllPass-from_list_all is_ascii_digit word are k d lt)))

pub none_told : (word : List ℕ) → all_digits word ≡ true → ¬ (IsUtf8 word) → None ≡ port_of word
none_told word are none = absurd (none (utf8 word are))
