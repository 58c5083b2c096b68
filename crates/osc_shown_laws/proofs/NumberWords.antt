-- Words that have the bytes of numbers alone.
use Rattle.std.proofs.Common.{◌≡◌, ℕ, suc, ◌+◌, ◌<◌, ◌≤◌, ◌==◌, ◌&&◌, ◌||◌, Bool, true, false, cond, not, nat_lt, List, [], ◌∷◌, length, Option, None, Ok, refl, ap, ◌∙◌}
use Rattle.std.proofs.Common.{arith, eqb-true, ◌^◌}
use Rattle.std.specs.Prelude.{ℤ, pos, negsuc, FitsSigned}
use Rattle.std.specs.Char.{is_ascii_digit}
use Rattle.std.specs.Fmt.{decimal, signed_decimal}
use Rattle.std.specs.Int.{w32}
use Rattle.std.specs.List.{list_all, position_or_len}
use Rattle.std.proofs.lemmas.Bool.{cond-true, cond-false}
use Rattle.std.proofs.lemmas.Bool.Decides.{nat_tests}
use Rattle.osc_message.specs.Messages.{Argument, integer}
use Rattle.osc_cues.specs.Faults.{made}
use Rattle.osc_cues.specs.Numbers.{is_number_byte, is_whole, int_read}
use Rattle.osc_cues.specs.Quoted.{has_quote}
use Rattle.osc_cues.specs.Arguments.{is_comma, has_comma, has_digits_round, name_read, number_read, said_read, word_or, argument_read}
use Rattle.osc_shown_laws.proofs.Numbers.{digits_are, int_32, whole_word, whole_below}

-- which byte it is not
record IsOther (byte : ℕ) : Type 0 where
  quote : 34 == byte ≡ false
  comma : byte == 44 ≡ false
  colon : byte == 58 ≡ false
  upper_t : byte == 84 ≡ false
  lower_t : byte == 116 ≡ false
  upper_f : byte == 70 ≡ false
  lower_f : byte == 102 ≡ false
  upper_n : byte == 78 ≡ false
  lower_n : byte == 110 ≡ false
  upper_i : byte == 73 ≡ false
  lower_i : byte == 105 ≡ false
  opening : byte == 91 ≡ false
  closing : byte == 93 ≡ false

-- a digit, a sign, a point or an `e`
record IsBetween (byte : ℕ) : Type 0 where
  from : 43 ≤ byte
  to : byte ≤ 101
  comma : byte ≡ 44 → ⊥
  letters : 57 < byte → (byte ≡ 69 → ⊥) → byte ≡ 101

between : (byte : ℕ) → is_number_byte byte ≡ true → IsBetween byte
between byte is = record {
  from = grind (arith, nat_tests);
  to = grind (arith, nat_tests);
  comma = λ e. grind (arith, nat_tests);
  letters = λ large other. grind (arith, nat_tests);
}

unlike : (byte other : ℕ) → (byte ≡ other → ⊥) → byte == other ≡ false
unlike byte other isnt = go (byte == other) refl where
  go : (t : Bool) → byte == other ≡ t → t ≡ false
  go true is = absurd (isnt (eqb-true byte other is))
  go false is = refl

other_byte : (byte : ℕ) → IsBetween byte → IsOther byte
other_byte byte is =
    let letters = is.letters in
    let from = is.from in
    let to = is.to in
    record {
      quote = grind (arith, nat_tests);
      comma = unlike byte 44 is.comma;
      colon = grind (arith, nat_tests);
      upper_t = grind (arith, nat_tests);
      lower_t = grind (arith, nat_tests);
      upper_f = grind (arith, nat_tests);
      lower_f = grind (arith, nat_tests);
      upper_n = grind (arith, nat_tests);
      lower_n = grind (arith, nat_tests);
      upper_i = grind (arith, nat_tests);
      lower_i = grind (arith, nat_tests);
      opening = grind (arith, nat_tests);
      closing = grind (arith, nat_tests);
    }

-- no name begins so
unnamed : (first : ℕ) (rest : List ℕ) → IsOther first → name_read (first ∷ rest) ≡ None
unnamed first rest is =
    rw (is.lower_t, is.upper_t, is.lower_f, is.upper_f, is.lower_n, is.upper_n, is.lower_i, is.upper_i, is.opening, is.closing) refl

unquoted : (first : ℕ) (rest : List ℕ) → IsOther first → has_quote (first ∷ rest) ≡ false
unquoted first rest is = rw (is.quote) refl

untagged : (first : ℕ) (rest : List ℕ) → list_all is_number_byte rest ≡ true → said_read (first ∷ rest) ≡ number_read (first ∷ rest)
untagged first [] all = refl
untagged first (next ∷ rest) all = go (is_number_byte next) refl all where
  go : (t : Bool) → is_number_byte next ≡ t → (t && list_all is_number_byte rest) ≡ true
      → said_read (first ∷ next ∷ rest) ≡ number_read (first ∷ next ∷ rest)
  go true is more = cond-false _ _ _ ((other_byte next (between next is)).colon)
  go false is more = absurd (cc)

-- such a word is read as a number
pub as_number : (word : List ℕ) → list_all is_number_byte word ≡ true → argument_read word ≡ number_read word
as_number [] all = refl
as_number (first ∷ rest) all = go (is_number_byte first) refl all where
  go : (t : Bool) → is_number_byte first ≡ t → (t && list_all is_number_byte rest) ≡ true
      → argument_read (first ∷ rest) ≡ number_read (first ∷ rest)
  go true is more =
      let other = other_byte first (between first is) in
      ap (λ (name : Option Argument). word_or name (first ∷ rest)) (unnamed first rest other)
      ∙ cond-false _ _ _ (unquoted first rest other) ∙ untagged first rest more
  go false is more = absurd (cc)

one_add : (n : ℕ) → 1 + n ≡ suc n
one_add n = omega arith

-- it has no comma
no_comma_in : (word : List ℕ) → list_all is_number_byte word ≡ true → position_or_len is_comma word ≡ length word
no_comma_in [] all = refl
no_comma_in (first ∷ rest) all = go (is_number_byte first) refl all (no_comma_in rest) where
  go : (t : Bool) → is_number_byte first ≡ t → (t && list_all is_number_byte rest) ≡ true
      → (list_all is_number_byte rest ≡ true → position_or_len is_comma rest ≡ length rest)
      → position_or_len is_comma (first ∷ rest) ≡ suc (length rest)
  go true is more later =
      ap (λ (b : Bool). cond (not b) (1 + position_or_len is_comma rest) 0) ((other_byte first (between first is)).comma)
      ∙ ap (λ (n : ℕ). 1 + n) (later more) ∙ one_add (length rest)
  go false is more later = absurd (cc)

none_there : (n m : ℕ) → m ≡ n → nat_lt m n ≡ false
none_there n m same = grind (arith, nat_tests)

pub no_comma : (word : List ℕ) → list_all is_number_byte word ≡ true → has_comma word ≡ false
no_comma word all =
    ap (has_digits_round word) (cond-false _ _ _ (none_there (length word) (position_or_len is_comma word) (no_comma_in word all)))

-- whole numbers
digit_byte : (byte : ℕ) → is_ascii_digit byte ≡ true → is_number_byte byte ≡ true
digit_byte byte is = ap (λ (b : Bool). b || byte == 46 || byte == 101 || byte == 69 || byte == 43 || byte == 45) is

pub digit_bytes : (word : List ℕ) → list_all is_ascii_digit word ≡ true → list_all is_number_byte word ≡ true
digit_bytes [] all = refl
digit_bytes (first ∷ rest) all = go (is_ascii_digit first) refl all (digit_bytes rest) where
  go : (t : Bool) → is_ascii_digit first ≡ t → (t && list_all is_ascii_digit rest) ≡ true
      → (list_all is_ascii_digit rest ≡ true → list_all is_number_byte rest ≡ true)
      → list_all is_number_byte (first ∷ rest) ≡ true
  go true is more later = ap (λ (b : Bool). b && list_all is_number_byte rest) (digit_byte first is) ∙ later more
  go false is more later = absurd (cc)

int_word : (number : ℤ) (word : List ℕ) → list_all is_number_byte word ≡ true → is_whole word ≡ true → int_read 0 word ≡ Ok number
    → argument_read word ≡ Ok (integer number)
int_word number word bytes whole read =
    as_number word bytes ∙ cond-false _ _ _ (no_comma word bytes) ∙ cond-true _ _ _ whole
    ∙ ap (made integer) read

pub int_again : (number : ℤ) → FitsSigned w32 number → argument_read (signed_decimal number) ≡ Ok (integer number)
int_again (pos number) fits =
    let small : number < 2 ^ 64 = omega (arith, fits.sfits) in
    int_word (pos number) (decimal number) (digit_bytes (decimal number) (digits_are number small).all) (whole_word number small) (int_32 0 (pos number) fits)
int_again (negsuc number) fits =
    let small : suc number < 2 ^ 64 = omega (arith, fits.sfits) in
    int_word (negsuc number) (45 ∷ decimal (suc number)) (digit_bytes (decimal (suc number)) (digits_are (suc number) small).all)
    (whole_below (suc number) small) (int_32 0 (negsuc number) fits)
