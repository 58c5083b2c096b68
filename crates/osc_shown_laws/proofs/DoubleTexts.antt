-- The decimals of doubles are no 16 hexadecimal digits, and are read as doubles.
use Rattle.std.proofs.Common.{◌≡◌, ℕ, ◌+◌, ◌-◌, ◌*◌, ◌^◌, ◌<◌, ◌≤◌, Bool, true, false, cond, nat_lt, nat_le, List, [], ◌∷◌, ◌++◌, length, slice_index, Option, Some, None, Result, Ok, Err, refl, sym, ap, subst, ◌∙◌}
use Rattle.std.proofs.Common.{arith, append_assoc, length-append}
use Rattle.std.specs.Prelude.{from_bits, IsOk, option_map}
use Rattle.std.specs.Float.{float_is_finite}
use Rattle.std.specs.Float.Parse.{parse_float}
use Rattle.std.specs.Fmt.{decimal, sign_text}
use Rattle.std.specs.Int.{w64, from_be_bytes}
use Rattle.std.specs.List.{AllPass}
use Rattle.std.specs.Result.{result_ok}
use Rattle.std.specs.Str.Parse.{AllDigits, digits_value}
use Rattle.std.proofs.Math.Nat.{pow-le-pow_right, mul-le-mul}
use Rattle.std.proofs.lemmas.Bool.Decides.{nat_tests}
use Rattle.std.proofs.lemmas.Float.Parse.{parse_float-text_of}
use Rattle.std.proofs.lemmas.Fmt.{length-decimal-le, decimal_is_IsNumeral}
use Rattle.std.proofs.lemmas.Str.Parse.{digit_from_value}
use lib.Ieee.{binary64, inf, round}
use Rattle.fast_float.specs.Text.{Parts, digits_of, tens_up, tens_down, nearest, exponent_text, text_of}
use Rattle.fast_float.proofs.Extremes.{nearest_of_huge}
use Rattle.fast_float.proofs.Patterns.{infinite}
use Rattle.hex.specs.declared.error.FromHexError.{FromHexError}
use Rattle.hex.specs.Hex.{decode_sized, is_hex_digit}
use Rattle.hex.proofs.HexLemmas.{IsOk-decode_sized}
use Rattle.ryu.specs.Plain.{IsPlain, IsLaidOut, IsLaidOutNumber}
use Rattle.osc_shown.specs.Arguments.{is_finite, IsDecimal}
use Rattle.osc_cues.specs.declared.fault.Fault.TheVariants.{LargeDouble}
use Rattle.osc_cues.specs.Numbers.{sixteen_read, double_or, double_read}
use Rattle.osc_shown_laws.proofs.Decimals.{decimal_long}
use Rattle.osc_shown_laws.proofs.HexDigits.{inside}
use Rattle.osc_shown_laws.proofs.FloatTexts.{decimal_word, decimal_again, number_is}

-- an exponent of 14 digits is a thousand at least
long_exponent : (number : ℕ) → length (decimal number) ≡ 14 → 1000 ≤ digits_value 10 (decimal number)
long_exponent number long = go (nat_le (2 ^ 64) number) (nat_lt number 1000) refl refl where
  few : number < 1000 → number < 2 ^ 64 → 1000 ≤ digits_value 10 (decimal number)
  few small fits = absurd (omega (arith, length-decimal-le 3 number (omega arith) small fits, long))

  value : number < 2 ^ 64 → 1000 ≤ number → 1000 ≤ digits_value 10 (decimal number)
  value fits large = omega (arith, (decimal_is_IsNumeral number fits).1, large)

  go : (t u : Bool) → nat_le (2 ^ 64) number ≡ t → nat_lt number 1000 ≡ u → 1000 ≤ digits_value 10 (decimal number)
  go true u large one = absurd (omega (arith, decimal_long number (grind (arith, nat_tests)), long))
  go false true large one = few (grind (arith, nat_tests)) (grind (arith, nat_tests))
  go false false large one = value (grind (arith, nat_tests)) (grind (arith, nat_tests))

-- a number with such an exponent is infinite
huge : (digits tens : ℕ) → 1 ≤ digits → 1000 ≤ tens → 10 ^ 309 * 10 ^ 0 ≤ digits * 10 ^ tens
huge digits tens some many =
    let least : 309 ≤ tens = omega arith in
    let power : 10 ^ 309 ≤ 10 ^ tens = pow-le-pow_right {n = 10} (omega arith) least in
    let both : 1 * 10 ^ 309 ≤ digits * 10 ^ tens = mul-le-mul some power in
    omega (arith, both)

infinite_round : (digits tens : ℕ) → 1 ≤ digits → 1000 ≤ tens → round binary64 false (digits * 10 ^ tens) (10 ^ 0) ≡ inf false
infinite_round digits tens some many =
    sym ((nearest_of_huge binary64 (digits * 10 ^ tens) (10 ^ 0) (omega arith) (huge digits tens some many)).0) ∙ infinite binary64

not_finite : float_is_finite (inf false) ≡ false
unfolding float_is_finite
not_finite = refl

same_some : {X : Type 0} (one other : X) → Some one ≡ Some other → one ≡ other
same_some one other same = cc

-- its bits would be those of an infinity
never_huge : (bits : ℕ) (p : Parts) → IsPlain p → is_finite binary64 bits ≡ true → parse_float binary64 (text_of p) ≡ Some (from_bits binary64 bits)
    → p.exponent_negative ≡ false → p.fraction ≡ [] → 1 ≤ digits_of p → 1000 ≤ digits_value 10 p.exponent → ⊥
never_huge bits p is finite reads plus bare some many =
    let number = number_is binary64 bits finite in
    let value : nearest binary64 false p ≡ from_bits binary64 bits =
    same_some (nearest binary64 false p) (from_bits binary64 bits) (sym (parse_float-text_of binary64 false p is.well_formed is.whole) ∙ reads) in
    let up : tens_up p ≡ digits_value 10 p.exponent = ap (λ (b : Bool). cond b 0 (digits_value 10 p.exponent)) plus in
    let down : tens_down p ≡ 0 =
    ap (λ (b : Bool). length p.fraction + cond b (digits_value 10 p.exponent) 0) plus ∙ ap (λ (l : List ℕ). length l + 0) bare in
    let all : nearest binary64 false p ≡ inf false =
    ap (λ (n : ℕ). round binary64 false (digits_of p * 10 ^ tens_up p) (10 ^ n)) down
    ∙ ap (λ (n : ℕ). round binary64 false (digits_of p * 10 ^ n) (10 ^ 0)) up
    ∙ infinite_round (digits_of p) (digits_value 10 p.exponent) some many in
    let isnt : float_is_finite (from_bits binary64 bits) ≡ false = ap float_is_finite (sym value ∙ all) ∙ not_finite in
    cc (number.finite, isnt)

-- a first digit that isn't zero
digit_worth : (digit : ℕ) → 48 < digit → digit ≤ 57 → 1 ≤ digits_value 10 (digit ∷ [])
digit_worth digit some small = let is : digits_value 10 (digit ∷ []) ≡ digit - 48 = grind (arith, nat_tests) in omega (arith, is)

worth : (whole fraction : List ℕ) → length whole ≡ 1 → 48 < slice_index whole 0 → AllDigits 10 whole → fraction ≡ []
    → 1 ≤ digits_value 10 (whole ++ fraction)
worth [] fraction one some all bare = absurd (omega arith)
worth (digit ∷ next ∷ whole) fraction one some all bare = absurd (omega arith)
worth (digit ∷ []) fraction one some all bare =
    subst (λ (l : List ℕ). 1 ≤ digits_value 10 (digit ∷ l)) (sym bare) (digit_worth digit some (digit_from_value digit all.0).1)

-- it isn't 16 hexadecimal digits
abbrev text_with : Parts → Bool → Bool → List ℕ → List ℕ
text_with p point negative exponent = p.whole ++ (cond point (46 ∷ p.fraction) [] ++ exponent_text negative exponent)

not_sixteen : (bits : ℕ) (p : Parts) → IsPlain p → IsLaidOut 16 4 p → is_finite binary64 bits ≡ true
    → parse_float binary64 (text_of p) ≡ Some (from_bits binary64 bits) → length (text_of p) ≡ 16 → AllPass is_hex_digit (text_of p) → ⊥
not_sixteen bits p is layout finite reads long all = go p.point p.exponent_negative p.exponent refl refl refl all long where
  go : (point negative : Bool) (exponent : List ℕ) → p.point ≡ point → p.exponent_negative ≡ negative → p.exponent ≡ exponent
      → AllPass is_hex_digit (text_with p point negative exponent) → length (text_with p point negative exponent) ≡ 16 → ⊥
  go true negative exponent one two three all long =
      let wrong : false ≡ true = inside p.whole (p.fraction ++ exponent_text negative exponent) 46 all in cc wrong
  go false negative [] one two three all long = absurd (omega (arith, is.marked one, ap length three))
  go false true (digit ∷ digits) one two three all long =
      let front : List ℕ = p.whole ++ 101 ∷ [] in
      let cut : front ++ 45 ∷ digit ∷ digits ≡ p.whole ++ 101 ∷ 45 ∷ digit ∷ digits = append_assoc p.whole (101 ∷ []) (45 ∷ digit ∷ digits) in
      let wrong : false ≡ true =
      inside front (digit ∷ digits) 45 (subst (λ (l : List ℕ). AllPass is_hex_digit l) (sym cut) all) in cc wrong
  go false false (digit ∷ digits) one two three all long =
      let some : 0 < length p.exponent = omega (arith, ap length three) in
      let first = layout.one_digit some in
      let far = layout.far some in
      let bare = is.well_formed.no_point one in
      let many : length p.exponent ≡ 14 = omega (arith, length-append p.whole (101 ∷ digit ∷ digits), long, first.0, ap length three) in
      never_huge bits p is finite reads two bare (worth p.whole p.fraction first.0 first.1 is.well_formed.whole_digits bare)
      (subst (λ (l : List ℕ). 1000 ≤ digits_value 10 l) (sym far.1) (long_exponent far.0 (sym (ap length far.1) ∙ many)))

not_signed_sixteen : (bits : ℕ) (negative : Bool) (p : Parts) → IsPlain p → IsLaidOut 16 4 p → is_finite binary64 bits ≡ true
    → parse_float binary64 (sign_text negative ++ text_of p) ≡ Some (from_bits binary64 bits)
    → length (sign_text negative ++ text_of p) ≡ 16 → AllPass is_hex_digit (sign_text negative ++ text_of p) → ⊥
not_signed_sixteen bits true p is layout finite reads long all = let wrong : false ≡ true = inside [] (text_of p) 45 all in cc wrong
not_signed_sixteen bits false p is layout finite reads long all = not_sixteen bits p is layout finite reads long all

never_digits : (bits : ℕ) (said : List ℕ) → IsLaidOutNumber 16 4 said → is_finite binary64 bits ≡ true
    → parse_float binary64 said ≡ Some (from_bits binary64 bits) → length said ≡ 16 → AllPass is_hex_digit said → ⊥
never_digits bits said is finite reads long all =
    let size = is.3 in
    let spelled = is.2 ∙ ap (λ (l : List ℕ). sign_text is.0 ++ l) size.1 in
    not_signed_sixteen bits is.0 size.0 size.2 size.3 finite
    (subst (λ (l : List ℕ). parse_float binary64 l ≡ Some (from_bits binary64 bits)) spelled reads)
    (subst (λ (l : List ℕ). length l ≡ 16) spelled long)
    (subst (λ (l : List ℕ). AllPass is_hex_digit l) spelled all)

no_sixteen : (bits : ℕ) (said : List ℕ) → is_finite binary64 bits ≡ true → IsDecimal binary64 16 4 bits said → sixteen_read said ≡ None
no_sixteen bits said finite is = go (decode_sized said 8) refl where
  go : (read : Result (List ℕ) FromHexError) → decode_sized said 8 ≡ read → option_map (from_be_bytes w64) (result_ok read) ≡ None
  go (Err error) same = refl
  go (Ok bytes) same = absurd (
      let all = (IsOk-decode_sized said 8).0 (subst IsOk (sym same) refl) in
      never_digits bits said is.layout finite is.reads all.0 all.1
      )

pub double_again : (bits : ℕ) (said : List ℕ) → bits < 2 ^ 64 → is_finite binary64 bits ≡ true → IsDecimal binary64 16 4 bits said
    → double_read 2 said ≡ Ok bits
double_again bits said small finite is =
    ap (λ (read : Option ℕ). double_or read 2 said) (no_sixteen bits said finite is)
    ∙ decimal_again binary64 LargeDouble 2 bits said (omega arith) finite (decimal_word 16 4 said is.layout) is.reads
