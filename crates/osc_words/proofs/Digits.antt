-- A number that is written in digits can be read.
use Rattle.std.proofs.Common.{◌≡◌, ℕ, ◌<◌, ◌^◌, ◌==◌, Bool, true, false, cond, List, [], ◌∷◌, Some, None, drop, refl, sym, ap, subst, arith, nat_lt, nat_le}
use Rattle.std.specs.Prelude.{◌&&◌}
use Rattle.std.specs.Char.{digit_value, is_ascii_digit}
use Rattle.std.specs.List.{list_all}
use Rattle.std.specs.Str.Parse.{AllDigits, IsNumeral, digits_value, without_leading_plus}
use Rattle.std.proofs.lemmas.Bool.{and_parts, ltb-false, ltb-true}
use Rattle.std.proofs.lemmas.Bool.Decides.{nat_tests}
use Rattle.osc_words.specs.Numbers.{is_number, has_no_zero_first, number_within}

digit : (c : ℕ) → is_ascii_digit c ≡ true → digit_value c < 10
digit c is = grind (arith, nat_tests)

no_plus : (c : ℕ) → is_ascii_digit c ≡ true → (c == 43) ≡ false
no_plus c is = grind (arith, nat_tests)

all_digits : (text : List ℕ) → list_all is_ascii_digit text ≡ true → AllDigits 10 text
all_digits [] is = tt
all_digits (c ∷ text) is =
    let parts = and_parts (is_ascii_digit c) (list_all is_ascii_digit text) is in (digit c parts.0, all_digits text parts.1)

numeral : (text : List ℕ) → is_number text ≡ true → IsNumeral 10 text
numeral [] is = absurd (cc)
numeral (c ∷ text) is =
    (omega arith, all_digits (c ∷ text) (and_parts (list_all is_ascii_digit (c ∷ text)) (has_no_zero_first (c ∷ text)) is).0)

plain : (text : List ℕ) → is_number text ≡ true → without_leading_plus text ≡ text
plain [] is = refl
plain (c ∷ text) is =
    let all = (and_parts (list_all is_ascii_digit (c ∷ text)) (has_no_zero_first (c ∷ text)) is).0 in
    let no : (c == 43) ≡ false = no_plus c (and_parts (is_ascii_digit c) (list_all is_ascii_digit text) all).0 in
    ap (λ (b : Bool). drop (cond b 1 0) (c ∷ text)) no

beyond : (b c : Bool) (most v : ℕ) → most < v → None ≡ cond (b && (c && nat_le v most)) (Some v) None
beyond false c most v more = refl
beyond true false most v more = refl
beyond true true most v more =
    let no : nat_le v most ≡ false = grind (arith, nat_tests) in rw no refl

-- a number that no u64 holds lies in no range of them
pub too_large : (least most : ℕ) (text : List ℕ) → is_number text ≡ true
    → ¬ (IsNumeral 10 (without_leading_plus text) × (digits_value 10 (without_leading_plus text) < 2 ^ 64)) → most < 2 ^ 64
    → None ≡ number_within least most text
too_large least most text is refused fits =
    go (nat_lt (digits_value 10 text) (2 ^ 64)) refl
  where
    go : (small : Bool) → nat_lt (digits_value 10 text) (2 ^ 64) ≡ small → None ≡ number_within least most text
    go true small = absurd (refused (subst (λ (t : List ℕ). IsNumeral 10 t × (digits_value 10 t < 2 ^ 64)) (sym (plain text is))
        (numeral text is, ltb-true (digits_value 10 text) (2 ^ 64) small)))
    go false small = beyond (is_number text) (nat_le least (digits_value 10 text)) most (digits_value 10 text)
        (omega (arith, ltb-false (digits_value 10 text) (2 ^ 64) small))

pub ruleset numbers = (too_large)
