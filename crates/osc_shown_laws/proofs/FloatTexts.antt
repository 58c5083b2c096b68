-- The decimals of floats are read as these.
use Rattle.std.proofs.Common.{◌≡◌, ℕ, ◌*◌, ◌^◌, ◌<◌, ◌≤◌, ◌==◌, ◌&&◌, ◌||◌, Bool, true, false, cond, not, T, nat_lt, List, [], ◌∷◌, ◌++◌, length, Some, Ok, refl, sym, ap, subst, ◌∙◌}
use Rattle.std.proofs.Common.{arith}
use Rattle.std.specs.Prelude.{from_bits, to_bits}
use Rattle.std.specs.Char.{is_ascii_digit}
use Rattle.std.specs.Float.{float_is_finite}
use Rattle.std.specs.Float.Parse.{parse_float}
use Rattle.std.specs.Fmt.{sign_text}
use Rattle.std.specs.List.{list_all}
use Rattle.std.specs.Str.Parse.{AllDigits}
use Rattle.std.proofs.lemmas.Bool.{cond-true, cond-false}
use Rattle.std.proofs.lemmas.Bool.Decides.{nat_tests}
use Rattle.std.proofs.lemmas.List.Folds.{list_all-append}
use Rattle.std.proofs.lemmas.Str.Parse.{digit_from_value}
use lib.Ieee.{Format, binary32, nan_bits, is_nan, of_bits, top}
use lib.Ieee.Bits.{to_bits-of_bits, nan_bits_is}
use Rattle.fast_float.specs.Text.{Parts, exponent_text, text_of, IsWellFormed}
use Rattle.ryu.specs.Plain.{IsPlain, IsLaidOutNumber}
use Rattle.osc_message.specs.Messages.{float}
use Rattle.osc_shown.specs.Arguments.{is_finite, IsDecimal}
use Rattle.osc_cues.specs.declared.fault.Fault.{Fault}
use Rattle.osc_cues.specs.declared.fault.Fault.TheVariants.{LargeFloat}
use Rattle.osc_cues.specs.Faults.{made}
use Rattle.osc_cues.specs.Numbers.{are_digits, is_whole, is_number_byte, has_no_plus, is_plain_number, bits_of, decimal_read}
use Rattle.osc_cues.specs.Arguments.{begins_number, argument_read}
use Rattle.osc_shown_laws.proofs.NumberWords.{as_number, no_comma, digit_bytes}

-- How the text of a number looks.

digit_is : (byte : ℕ) → (48 ≤ byte) × (byte ≤ 57) → is_ascii_digit byte ≡ true
digit_is byte is = let from = is.0 in let to = is.1 in grind (arith, nat_tests)

pub digits_pass : (digits : List ℕ) → AllDigits 10 digits → list_all is_ascii_digit digits ≡ true
digits_pass [] all = refl
digits_pass (digit ∷ digits) all =
    ap (λ (b : Bool). b && list_all is_ascii_digit digits) (digit_is digit (digit_from_value digit all.0)) ∙ digits_pass digits all.1

both_pass : (one other : List ℕ) → list_all is_number_byte one ≡ true → list_all is_number_byte other ≡ true
    → list_all is_number_byte (one ++ other) ≡ true
both_pass one other first second =
    list_all-append is_number_byte one other ∙ ap (λ (b : Bool). b && list_all is_number_byte other) first ∙ second

point_pass : (point : Bool) (fraction : List ℕ) → AllDigits 10 fraction → list_all is_number_byte (cond point (46 ∷ fraction) []) ≡ true
point_pass true fraction all = digit_bytes fraction (digits_pass fraction all)
point_pass false fraction all = refl

exponent_pass : (negative : Bool) (exponent : List ℕ) → AllDigits 10 exponent → list_all is_number_byte (exponent_text negative exponent) ≡ true
exponent_pass negative [] all = refl
exponent_pass true (digit ∷ digits) all = digit_bytes (digit ∷ digits) (digits_pass (digit ∷ digits) all)
exponent_pass false (digit ∷ digits) all = digit_bytes (digit ∷ digits) (digits_pass (digit ∷ digits) all)

pub text_pass : (p : Parts) → IsWellFormed p → list_all is_number_byte (text_of p) ≡ true
text_pass p is =
    both_pass p.whole (cond p.point (46 ∷ p.fraction) [] ++ exponent_text p.exponent_negative p.exponent)
    (digit_bytes p.whole (digits_pass p.whole is.whole_digits))
    (both_pass (cond p.point (46 ∷ p.fraction) []) (exponent_text p.exponent_negative p.exponent)
    (point_pass p.point p.fraction is.fraction_digits) (exponent_pass p.exponent_negative p.exponent is.exponent_digits))

-- it has a point or an exponent
not_digits : (whole rest : List ℕ) (byte : ℕ) → is_ascii_digit byte ≡ false → list_all is_ascii_digit (whole ++ byte ∷ rest) ≡ false
not_digits [] rest byte isnt = ap (λ (b : Bool). b && list_all is_ascii_digit rest) isnt
not_digits (first ∷ whole) rest byte isnt =
    ap (λ (b : Bool). is_ascii_digit first && b) (not_digits whole rest byte isnt) ∙ none (is_ascii_digit first) where
      none : (t : Bool) → (t && false) ≡ false
      none true = refl
      none false = refl

marked_text : (p : Parts) → IsPlain p → list_all is_ascii_digit (text_of p) ≡ false
marked_text p is = go p.point p.exponent refl refl where
  go : (t : Bool) (exponent : List ℕ) → p.point ≡ t → p.exponent ≡ exponent
      → list_all is_ascii_digit (p.whole ++ (cond t (46 ∷ p.fraction) [] ++ exponent_text p.exponent_negative exponent)) ≡ false
  go true exponent point ends = not_digits p.whole (p.fraction ++ exponent_text p.exponent_negative exponent) 46 refl
  go false [] point ends = absurd (omega (arith, is.marked point, ap length ends))
  go false (digit ∷ digits) point ends = not_digits p.whole (sign_text p.exponent_negative ++ digit ∷ digits) 101 refl

-- its first byte is a digit
pub record IsUnsigned (text : List ℕ) : Type 0 where
  pub first : ℕ
  pub rest : List ℕ
  pub is : text ≡ first ∷ rest
  pub from : 48 ≤ first
  pub to : first ≤ 57
  pub pass : list_all is_number_byte (first ∷ rest) ≡ true
  pub marked : list_all is_ascii_digit (first ∷ rest) ≡ false

begins : (whole rest : List ℕ) → AllDigits 10 whole → 0 < length whole → list_all is_number_byte (whole ++ rest) ≡ true
    → list_all is_ascii_digit (whole ++ rest) ≡ false → IsUnsigned (whole ++ rest)
begins [] rest all some pass marked = absurd (omega arith)
begins (first ∷ whole) rest all some pass marked =
    let digit = digit_from_value first all.0 in
    record { first = first; rest = whole ++ rest; is = refl; from = digit.0; to = digit.1; pass = pass; marked = marked }

unsigned : (p : Parts) → IsPlain p → IsUnsigned (text_of p)
unsigned p is =
    begins p.whole (cond p.point (46 ∷ p.fraction) [] ++ exponent_text p.exponent_negative p.exponent) is.well_formed.whole_digits is.whole
    (text_pass p is.well_formed) (marked_text p is)

-- a text that is read as a number that isn't whole
pub record IsDecimalWord (word : List ℕ) : Type 0 where
  pub pass : list_all is_number_byte word ≡ true
  pub no_plus : has_no_plus word ≡ true
  pub part : is_whole word ≡ false
  pub number : begins_number word ≡ true

begins_digit : (first : ℕ) → 48 ≤ first → first ≤ 57 → (is_ascii_digit first || first == 43 || first == 45 || first == 46) ≡ true
begins_digit first from to = grind (arith, nat_tests)

not_plus : (first : ℕ) → 48 ≤ first → not (first == 43) ≡ true
not_plus first from = grind (arith, nat_tests)

not_minus : (first : ℕ) → 48 ≤ first → first == 45 ≡ false
not_minus first from = grind (arith, nat_tests)

not_all : (word : List ℕ) → list_all is_ascii_digit word ≡ false → are_digits word ≡ false
not_all word marked = ap (λ (b : Bool). nat_lt 0 (length word) && b) marked ∙ none (nat_lt 0 (length word)) where
  none : (t : Bool) → (t && false) ≡ false
  none true = refl
  none false = refl

signed_word : (negative : Bool) (first : ℕ) (rest : List ℕ) → 48 ≤ first → first ≤ 57 → list_all is_number_byte (first ∷ rest) ≡ true
    → list_all is_ascii_digit (first ∷ rest) ≡ false → IsDecimalWord (sign_text negative ++ first ∷ rest)
signed_word true first rest from to pass marked =
    record { pass = pass; no_plus = refl; part = not_all (first ∷ rest) marked; number = refl }
signed_word false first rest from to pass marked = record {
  pass = pass;
  no_plus = not_plus first from;
  part = ap (λ (b : Bool). are_digits (cond b rest (first ∷ rest))) (not_minus first from) ∙ not_all (first ∷ rest) marked;
  number = begins_digit first from to;
}

pub decimal_word : (digits few : ℕ) (said : List ℕ) → IsLaidOutNumber digits few said → IsDecimalWord said
decimal_word digits few said is =
    let size = is.3 in
    let text = unsigned size.0 size.2 in
    subst IsDecimalWord (sym (is.2 ∙ ap (λ (l : List ℕ). sign_text is.0 ++ l) (size.1 ∙ text.is)))
    (signed_word is.0 text.first text.rest text.from text.to text.pass text.marked)

-- The bits of a number are those that it has been made of.

bits_again : (format : Format) (bits : ℕ) → bits < 2 * top format → nan_bits format bits ≡ false → to_bits format (from_bits format bits) ≡ bits
bits_again format bits small number =
    to_bits-of_bits format bits small (passes (is_nan (of_bits format bits)) (sym (nan_bits_is format bits) ∙ number)) where
      passes : (b : Bool) → b ≡ false → T (not b)
      passes true is = absurd (cc)
      passes false is = tt

pub record IsNumber (format : Format) (bits : ℕ) : Type 0 where
  pub number : nan_bits format bits ≡ false
  pub finite : float_is_finite (from_bits format bits) ≡ true

pub number_is : (format : Format) (bits : ℕ) → is_finite format bits ≡ true → IsNumber format bits
number_is format bits is = go (nan_bits format bits) (float_is_finite (from_bits format bits)) refl refl is where
  go : (t u : Bool) → nan_bits format bits ≡ t → float_is_finite (from_bits format bits) ≡ u → (not t && u) ≡ true → IsNumber format bits
  go true u one two is = absurd (cc)
  go false true one two is = record { number = one; finite = two }
  go false false one two is = absurd (cc)

plain_number : (word : List ℕ) → IsDecimalWord word → is_plain_number word ≡ true
plain_number word is = ap (λ (b : Bool). b && list_all is_number_byte word) is.no_plus ∙ is.pass

pub decimal_again : (format : Format) (large : Fault) (at bits : ℕ) (word : List ℕ) → bits < 2 * top format → is_finite format bits ≡ true
    → IsDecimalWord word → parse_float format word ≡ Some (from_bits format bits) → decimal_read format large at word ≡ Ok bits
decimal_again format large at bits word small finite is reads =
    let number = number_is format bits finite in
    cond-true _ _ _ (plain_number word is) ∙ ap (bits_of format large at) reads
    ∙ cond-true _ _ _ number.finite ∙ ap (λ (n : ℕ). Ok n) (bits_again format bits small number.number)

pub float_again : (bits : ℕ) (word : List ℕ) → bits < 2 ^ 32 → is_finite binary32 bits ≡ true → IsDecimal binary32 13 5 bits word
    → argument_read word ≡ Ok (float bits)
float_again bits word small finite is =
    let shape = decimal_word 13 5 word is.layout in
    as_number word shape.pass ∙ cond-false _ _ _ (no_comma word shape.pass) ∙ cond-false _ _ _ shape.part
    ∙ cond-true _ _ _ shape.number
    ∙ ap (made float) (decimal_again binary32 LargeFloat 0 bits word (omega arith) finite shape is.reads)
