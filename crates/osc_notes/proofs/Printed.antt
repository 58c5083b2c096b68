-- The words that are printed of arguments are read as these.
use Rattle.std.proofs.Common.{◌≡◌, ◌⊎◌, inl, inr, ℕ, zero, suc, ◌+◌, ◌-◌, ◌/◌, ◌%◌, ◌^◌, ◌<◌, ◌≤◌, ◌==◌, ◌&&◌, Bool, true, false, cond}
use Rattle.std.proofs.Common.{not, nat_le, List, [], ◌∷◌, ◌++◌, length, Option, Some, None, refl, sym, ap, subst, ◌∙◌}
use Rattle.std.proofs.Common.{length-append, arith, eqb-true}
use Rattle.std.specs.Prelude.{ℤ, pos, negsuc, FitsSigned, option_map, option_and_then}
use Rattle.std.specs.Char.{is_ascii_digit}
use Rattle.std.specs.Fmt.{decimal, signed_decimal}
use Rattle.std.specs.Int.{w32, w64, byte_at, bytes_high_first, from_be_bytes}
use Rattle.std.specs.List.{flat_map, list_all}
use Rattle.std.specs.Result.{result_ok}
use Rattle.std.proofs.lemmas.Bool.Decides.{nat_tests}
use Rattle.std.proofs.lemmas.Fmt.{decimal_by_steps}
use Rattle.std.proofs.lemmas.List.Sums.{fold-append}
use Rattle.std.proofs.lemmas.Nat.{from_be_bytes-to_be_bytes_4, from_be_bytes-to_be_bytes_8}
use Rattle.hex.specs.Hex.{IsBytes, encode_lower, encode_with}
use Rattle.hex.proofs.HexLemmas.{decode_of-encode_lower, decode_sized-encode_lower}
use Rattle.osc_atoms.specs.Atoms.{word, tag, has_no_zero}
use Rattle.osc_message.specs.Messages.{Argument, integer, float, text, content, long, time, double, symbol, character, rgba, midi, true_}
use Rattle.osc_message.specs.Messages.{false_, nil, infinitum}
use Rattle.osc_message.specs.Messages.{array_start, array_end, Fits}
use Rattle.osc_print.specs.Words.{argument_word, is_shown, shown_byte}
use Rattle.osc_score.specs.Scores.{IsOfBytes}
use Rattle.osc_score.specs.ArgumentWords.{argument_read, below_zero, escape_read, first_byte, is_decimal, is_plain, natural_read}
use Rattle.osc_score.specs.ArgumentWords.{number_in, signed_read, tag_read, text_read, text_within, unless_zero, with_digit, word_read}

-- Numbers in decimal.

-- these are the digits of a number, of which the first isn't zero unless it is the only one
pub record AreDigits (number : ℕ) (digits : List ℕ) : Type 0 where
  pub first : ℕ
  pub rest : List ℕ
  pub are : digits ≡ first ∷ rest
  pub all : list_all is_ascii_digit digits ≡ true
  pub value : number_in digits ≡ number
  pub lead : 0 < number → 48 < first
  pub many : (rest ≡ []) ⊎ (0 < number)

digit_small : (digit : ℕ) → digit < 10 → is_ascii_digit (48 + digit) ≡ true
digit_small digit small = grind (arith, nat_tests)

one_more : (digits : List ℕ) (digit : ℕ) → list_all is_ascii_digit digits ≡ true → is_ascii_digit digit ≡ true
    → list_all is_ascii_digit (digits ++ digit ∷ []) ≡ true
one_more [] digit all one = ap (λ (b : Bool). b && true) one
one_more (first ∷ digits) digit all one = go (is_ascii_digit first) all (one_more digits digit) where
  go : (t : Bool) → (t && list_all is_ascii_digit digits) ≡ true
      → (list_all is_ascii_digit digits ≡ true → is_ascii_digit digit ≡ true → list_all is_ascii_digit (digits ++ digit ∷ []) ≡ true)
      → (t && list_all is_ascii_digit (digits ++ digit ∷ [])) ≡ true
  go true rest later = later rest one
  go false rest later = absurd (cc)

one_digit : (number : ℕ) → number < 10 → AreDigits number ((48 + number) ∷ [])
one_digit number small = record {
  first = 48 + number;
  rest = [];
  are = refl;
  all = ap (λ (b : Bool). b && true) (digit_small number small);
  value = omega arith;
  lead = λ some. omega arith;
  many = inl refl;
}

next_digit : (number : ℕ) (digits : List ℕ) → 10 ≤ number → AreDigits (number / 10) digits
    → AreDigits number (digits ++ (48 + number % 10) ∷ [])
next_digit number digits large so =
    let last : ℕ = 48 + number % 10 in
    record {
      first = so.first;
      rest = so.rest ++ last ∷ [];
      are = ap (λ (l : List ℕ). l ++ last ∷ []) so.are;
      all = one_more digits last so.all (digit_small (number % 10) (omega arith));
      value = omega (arith, fold-append with_digit 0 digits (last ∷ []), so.value);
      lead = λ some. so.lead (omega arith);
      many = inr (omega arith);
    }

pub digits_are : (number : ℕ) → number < 2 ^ 64 → AreDigits number (decimal number)
digits_are = decimal_by_steps AreDigits one_digit next_digit

first_digit : (first : ℕ) (rest : List ℕ) → list_all is_ascii_digit (first ∷ rest) ≡ true → 48 ≤ first
first_digit first rest all = go (is_ascii_digit first) refl all where
  go : (t : Bool) → is_ascii_digit first ≡ t → (t && list_all is_ascii_digit rest) ≡ true → 48 ≤ first
  go true is all = grind (arith, nat_tests)
  go false is all = absurd (cc)

is_numeral : (first : ℕ) (rest : List ℕ) → list_all is_ascii_digit (first ∷ rest) ≡ true → (rest ≡ []) ⊎ (48 < first)
    → is_decimal (first ∷ rest) ≡ true
is_numeral first [] all lead = go (is_ascii_digit first) all where
  go : (t : Bool) → (t && true) ≡ true → t ≡ true
  go true is = refl
  go false is = absurd (cc)
is_numeral first (next ∷ rest) all (inl none) = absurd (cc)
is_numeral first (next ∷ rest) all (inr large) = go (first == 48) refl where
  go : (t : Bool) → first == 48 ≡ t → (not t && list_all is_ascii_digit (first ∷ next ∷ rest)) ≡ true
  go true is = absurd (omega (arith, large, eqb-true first 48 is))
  go false is = all

natural_of : (most number : ℕ) (digits : List ℕ) → is_decimal digits ≡ true → number_in digits ≡ number → number ≤ most
    → natural_read most digits ≡ Some number
natural_of most number digits numeral value small =
    go (is_decimal digits) (nat_le (number_in digits) most) numeral (grind (arith, nat_tests)) where
      go : (t u : Bool) → t ≡ true → u ≡ true → cond (t && u) (Some (number_in digits)) None ≡ Some number
      go true true is few = ap Some value
      go true false is few = absurd (cc)
      go false u is few = absurd (cc)

-- a number that isn't negative, by its digits
positive_of : (bound number : ℕ) (digits : List ℕ) → AreDigits number digits → number < bound → signed_read bound digits ≡ Some (pos number)
positive_of bound number digits so small =
    subst (λ (l : List ℕ). signed_read bound l ≡ Some (pos number)) (sym so.are) (go (so.first == 45) refl) where
      all : list_all is_ascii_digit (so.first ∷ so.rest) ≡ true
      all = subst (λ (l : List ℕ). list_all is_ascii_digit l ≡ true) so.are so.all

      lead : (so.rest ≡ []) ⊎ (0 < number) → (so.rest ≡ []) ⊎ (48 < so.first)
      lead (inl none) = inl none
      lead (inr some) = inr (so.lead some)

      read : natural_read (bound - 1) (so.first ∷ so.rest) ≡ Some number
      read =
          natural_of (bound - 1) number (so.first ∷ so.rest) (is_numeral so.first so.rest all (lead so.many))
          (subst (λ (l : List ℕ). number_in l ≡ number) so.are so.value) (omega arith)

      go : (t : Bool) → so.first == 45 ≡ t
          → cond t (option_and_then below_zero (natural_read bound so.rest))
          (option_map pos (natural_read (bound - 1) (so.first ∷ so.rest)))
          ≡ Some (pos number)
      go true is = absurd (omega (arith, first_digit so.first so.rest all, eqb-true so.first 45 is))
      go false is = ap (option_map pos) read

negative_of : (number : ℕ) → below_zero (suc number) ≡ Some (negsuc number)
negative_of number = go (suc number == 0) refl where
  same : suc number - 1 ≡ number
  same = omega arith

  go : (t : Bool) → suc number == 0 ≡ t → cond t None (Some (negsuc (suc number - 1))) ≡ Some (negsuc number)
  go true is = absurd (omega (arith, eqb-true (suc number) 0 is))
  go false is = ap (λ (n : ℕ). Some (negsuc n)) same

below_of : (bound number : ℕ) (digits : List ℕ) → AreDigits (suc number) digits → suc number ≤ bound
    → signed_read bound (45 ∷ digits) ≡ Some (negsuc number)
below_of bound number digits so small =
    ap (option_and_then below_zero) (natural_of bound (suc number) digits numeral so.value small) ∙ negative_of number where
      numeral : is_decimal digits ≡ true
      numeral =
          subst (λ (l : List ℕ). is_decimal l ≡ true) (sym so.are)
          (is_numeral so.first so.rest (subst (λ (l : List ℕ). list_all is_ascii_digit l ≡ true) so.are so.all)
          (inr (so.lead (omega arith))))

signed_32 : (number : ℤ) → FitsSigned w32 number → signed_read (2 ^ 31) (signed_decimal number) ≡ Some number
signed_32 (pos number) fits = positive_of (2 ^ 31) number (decimal number) (digits_are number (omega (arith, fits.sfits)))
    (omega (arith, fits.sfits))
signed_32 (negsuc number) fits =
    below_of (2 ^ 31) number (decimal (suc number)) (digits_are (suc number) (omega (arith, fits.sfits))) (omega (arith, fits.sfits))

signed_64 : (number : ℤ) → FitsSigned w64 number → signed_read (2 ^ 63) (signed_decimal number) ≡ Some number
signed_64 (pos number) fits = positive_of (2 ^ 63) number (decimal number) (digits_are number (omega (arith, fits.sfits)))
    (omega (arith, fits.sfits))
signed_64 (negsuc number) fits =
    below_of (2 ^ 63) number (decimal (suc number)) (digits_are (suc number) (omega (arith, fits.sfits))) (omega (arith, fits.sfits))

-- Words and tags.

pub byte_first : (byte : ℕ) (bytes : List ℕ) → byte < 256 → IsBytes bytes → IsBytes (byte ∷ bytes)
byte_first byte bytes small each zero = small
byte_first byte bytes small each (suc k) = each k

byte_small : (k number : ℕ) → byte_at k number < 256
byte_small zero number = omega arith
byte_small (suc k) number = omega arith

pub bytes_small : (count number : ℕ) → IsBytes (bytes_high_first count number)
bytes_small zero number = λ k. omega arith
bytes_small (suc count) number = byte_first (byte_at count number) (bytes_high_first count number) (byte_small count number)
    (bytes_small count number)

read_32 : (number : ℕ) → number < 2 ^ 32 → word_read (encode_lower (word number)) ≡ Some number
read_32 number small =
    ap (λ read. option_map (from_be_bytes w32) (result_ok read)) (decode_sized-encode_lower (word number) 4 refl (bytes_small 4 number))
    ∙ ap Some (from_be_bytes-to_be_bytes_4 number small)

pub read_64 : (number : ℕ) → number < 2 ^ 64 → tag_read (encode_lower (tag number)) ≡ Some number
read_64 number small =
    ap (λ read. option_map (from_be_bytes w64) (result_ok read)) (decode_sized-encode_lower (tag number) 8 refl (bytes_small 8 number))
    ∙ ap Some (from_be_bytes-to_be_bytes_8 number small)

-- Texts.

-- each byte takes one letter at least
letters : (bytes : List ℕ) → length bytes ≤ length (flat_map shown_byte bytes)
letters [] = omega arith
letters (byte ∷ bytes) = omega (arith, length-append (shown_byte byte) (flat_map shown_byte bytes), some (is_shown byte), letters bytes)
  where
    some : (t : Bool) → 1 ≤ length (cond t (byte ∷ []) (92 ∷ 120 ∷ encode_lower (byte ∷ [])))
    some true = omega arith
    some false = omega arith

escape_of : (byte : ℕ) (rest : List ℕ) → 0 < byte → byte < 256 → escape_read (120 ∷ (encode_lower (byte ∷ []) ++ rest)) ≡ Some (byte, rest)
unfolding encode_with
escape_of byte rest some small =
    ap (λ read. option_map {U = ℕ × List ℕ} (λ (b : ℕ). (b, rest)) (option_and_then unless_zero (result_ok read)))
    (decode_of-encode_lower (byte ∷ []) (byte_first byte [] small (λ k. omega arith)))
    ∙ go (byte == 0) refl where
      go : (t : Bool) → byte == 0 ≡ t → option_map {U = ℕ × List ℕ} (λ (b : ℕ). (b, rest)) (cond t None (Some byte)) ≡ Some (byte, rest)
      go true is = absurd (omega (arith, some, eqb-true byte 0 is))
      go false is = refl

-- what follows the first byte
abbrev after_first : ℕ → Option (ℕ × List ℕ) → Option (List ℕ)
after_first most cut = option_and_then (λ cut. option_map (λ bytes. cut.0 ∷ bytes) (text_within most cut.1)) cut

shown_is : (byte : ℕ) → is_shown byte ≡ true → byte == 92 ≡ false
shown_is byte is = grind (arith, nat_tests)

byte_again : (byte : ℕ) (rest : List ℕ) → 0 < byte → byte < 256 → (t : Bool) → is_shown byte ≡ t
    → first_byte (cond t (byte ∷ []) (92 ∷ 120 ∷ encode_lower (byte ∷ [])) ++ rest) ≡ Some (byte, rest)
byte_again byte rest some small true is = go (byte == 92) (is_plain byte) (shown_is byte is) is where
  go : (t u : Bool) → t ≡ false → u ≡ true → cond t (escape_read rest) (cond u (Some (byte, rest)) None) ≡ Some (byte, rest)
  go true u bare plain = absurd (cc)
  go false true bare plain = refl
  go false false bare plain = absurd (cc)
byte_again byte rest some small false is = escape_of byte rest some small

within_cons : (most : ℕ) (word : List ℕ) → 0 < length word → text_within (suc most) word ≡ after_first most (first_byte word)
within_cons most [] some = absurd (omega arith)
within_cons most (byte ∷ rest) some = refl

text_again : (bytes : List ℕ) (most : ℕ) → length bytes ≤ most → has_no_zero bytes ≡ true → IsBytes bytes
    → text_within most (flat_map shown_byte bytes) ≡ Some bytes
text_again [] most few none each = refl
text_again (byte ∷ bytes) zero few none each = absurd (omega arith)
text_again (byte ∷ bytes) (suc most) few none each =
    let rest = flat_map shown_byte bytes in
    within_cons most (shown_byte byte ++ rest) (omega (arith, letters (byte ∷ bytes)))
    ∙ ap (after_first most) (byte_again byte rest (some (byte == 0) refl none) (each 0) (is_shown byte) refl)
    ∙ ap (option_map (λ l. byte ∷ l)) (text_again bytes most (omega arith) (later (byte == 0) none) (λ k. each (suc k))) where
      some : (t : Bool) → byte == 0 ≡ t → (not t && has_no_zero bytes) ≡ true → 0 < byte
      some true is none = absurd (cc)
      some false is none = grind (arith, nat_tests)

      later : (t : Bool) → (not t && has_no_zero bytes) ≡ true → has_no_zero bytes ≡ true
      later true none = absurd (cc)
      later false none = none

read_text : (bytes : List ℕ) → has_no_zero bytes ≡ true → IsBytes bytes → text_read (flat_map shown_byte bytes) ≡ Some bytes
read_text bytes none each = text_again bytes (length (flat_map shown_byte bytes)) (letters bytes) none each

-- All kinds.

pub word_again : (argument : Argument) → Fits argument → IsOfBytes argument → argument_read (argument_word argument) ≡ Some argument
word_again (integer number) fits bytes = ap (option_map integer) (signed_32 number fits)
word_again (float bits) fits bytes = ap (option_map float) (read_32 bits fits)
word_again (text chars) fits bytes = ap (option_map text) (read_text chars fits bytes)
word_again (content chars) fits bytes = ap (λ read. option_map content (result_ok read)) (decode_of-encode_lower chars bytes)
word_again (long number) fits bytes = ap (option_map long) (signed_64 number fits)
word_again (time number) fits bytes = ap (option_map time) (read_64 number fits)
word_again (double bits) fits bytes = ap (option_map double) (read_64 bits fits)
word_again (symbol chars) fits bytes = ap (option_map symbol) (read_text chars fits bytes)
word_again (character number) fits bytes = ap (option_map character) (read_32 number fits)
word_again (rgba number) fits bytes = ap (option_map rgba) (read_32 number fits)
word_again (midi number) fits bytes = ap (option_map midi) (read_32 number fits)
word_again true_ fits bytes = refl
word_again false_ fits bytes = refl
word_again nil fits bytes = refl
word_again infinitum fits bytes = refl
word_again array_start fits bytes = refl
word_again array_end fits bytes = refl
