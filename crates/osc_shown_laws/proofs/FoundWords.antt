-- The word of an argument is one word of a line.
use Rattle.std.proofs.Common.{◌≡◌, ℕ, suc, ◌/◌, ◌%◌, ◌^◌, ◌<◌, ◌==◌, ◌&&◌, Bool, true, false, cond, nat_le, List, [], ◌∷◌, ◌++◌, length, refl, sym, ap, subst, ◌∙◌}
use Rattle.std.proofs.Common.{zero, suc, take, arith, Some}
use Rattle.std.specs.Prelude.{codes, bytes_eq, slice_index, ℤ, pos, negsuc, FitsSigned}
use Rattle.std.specs.List.{list_all}
use Rattle.std.specs.Fmt.{decimal, signed_decimal}
use Rattle.std.specs.Int.{w32, w64}
use Rattle.std.proofs.lemmas.Bool.Decides.{nat_tests}
use Rattle.std.proofs.lemmas.Fmt.{decimal_nonempty}
use lib.Ieee.{binary32, binary64}
use Rattle.hex.specs.Hex.{IsBytes, encode_lower, encode_with, lower_digits, hex_digit_value}
use Rattle.hex.proofs.HexLemmas.{IsDigits-lower_digits}
use Rattle.osc_atoms.specs.Atoms.{word, tag, AreBytes, has_no_zero}
use Rattle.osc_message.specs.Messages.{Argument, tag_of, integer, float, text, content, long, time, double, symbol, character, rgba, midi, true_, false_, nil, infinitum}
use Rattle.osc_message.specs.Messages.{array_start, array_end, Fits}
use Rattle.osc_shown.specs.Texts.{quoted}
use Rattle.osc_shown.specs.Arguments.{is_finite, IsFloat, IsDouble, blob_text, character_text, IsWord}
use Rattle.osc_cues.specs.Numbers.{is_number_byte}
use Rattle.osc_cues.specs.Words.{front_mode}
use Rattle.osc_cues.specs.Arguments.{begins_number}
use Rattle.osc_shown_laws.specs.WholeArguments.{IsOfBytes}
use Rattle.osc_shown_laws.proofs.Numbers.{digits_are}
use Rattle.osc_shown_laws.proofs.NumberWords.{digit_bytes}
use Rattle.osc_shown_laws.proofs.HexDigits.{bytes_small}
use Rattle.osc_shown_laws.proofs.FloatTexts.{decimal_word}
use Rattle.osc_shown_laws.proofs.Decimals.{decimal_solid}
use Rattle.osc_shown_laws.proofs.Words.{cut_word}
use Rattle.std.proofs.lemmas.List.Folds.{list_all-append}
use Rattle.osc_shown_laws.proofs.QuotedTexts.{framed_text}
use Rattle.osc_shown_laws.proofs.VisibleBytes.{IsVisible, visible_both, visible_solid}
use Rattle.osc_shown_laws.proofs.Scans.{is_solid, BeginsPlain, IsFound, found_plain, found_text, found_symbol, Plain}

-- a word that is found, and is that of a bracket where the argument is one
pub record IsPlaced (argument : Argument) (said : List ℕ) : Type 0 where
  pub found : IsFound said
  pub opens : bytes_eq said (codes "[") ≡ (tag_of argument == 91)
  pub closes : bytes_eq said (codes "]") ≡ (tag_of argument == 93)
  pub visible : IsVisible said

placed : (argument : Argument) (first : ℕ) (rest : List ℕ) → BeginsPlain first → list_all is_solid rest ≡ true
    → first == 91 ≡ false → first == 93 ≡ false → (tag_of argument == 91) ≡ false → (tag_of argument == 93) ≡ false
    → IsPlaced argument (first ∷ rest)
placed argument first rest begins solid one other not_open not_close = record {
  found = found_plain first rest begins solid;
  opens = ap (λ (b : Bool). b && bytes_eq rest []) one ∙ sym not_open;
  closes = ap (λ (b : Bool). b && bytes_eq rest []) other ∙ sym not_close;
  visible = visible_solid (first ∷ rest) (ap (λ (b : Bool). b && list_all is_solid rest) begins.solid ∙ solid);
}

-- Numbers.

record IsNumberByte (byte : ℕ) : Type 0 where
  begins : BeginsPlain byte
  solid : is_solid byte ≡ true
  opening : byte == 91 ≡ false
  closing : byte == 93 ≡ false

mode_is : (byte : ℕ) → byte == 34 ≡ false → byte == 115 ≡ false → byte == 83 ≡ false → front_mode byte ≡ Plain
mode_is byte quote lower upper = rw (quote, lower, upper) refl

number_byte : (byte : ℕ) → is_number_byte byte ≡ true → IsNumberByte byte
number_byte byte is = record {
  begins = record {
    blank = grind (arith, nat_tests);
    hash = grind (arith, nat_tests);
    mode = mode_is byte (grind (arith, nat_tests)) (grind (arith, nat_tests)) (grind (arith, nat_tests));
    solid = grind (arith, nat_tests);
  };
  solid = grind (arith, nat_tests);
  opening = grind (arith, nat_tests);
  closing = grind (arith, nat_tests);
}

number_solid : (bytes : List ℕ) → list_all is_number_byte bytes ≡ true → list_all is_solid bytes ≡ true
number_solid [] all = refl
number_solid (byte ∷ bytes) all = go (is_number_byte byte) refl all (number_solid bytes) where
  go : (t : Bool) → is_number_byte byte ≡ t → (t && list_all is_number_byte bytes) ≡ true
      → (list_all is_number_byte bytes ≡ true → list_all is_solid bytes ≡ true) → (is_solid byte && list_all is_solid bytes) ≡ true
  go true is all later = ap (λ (b : Bool). b && list_all is_solid bytes) (number_byte byte is).solid ∙ later all
  go false is all later = absurd (cc)

number_placed : (argument : Argument) (bytes : List ℕ) → 0 < length bytes → list_all is_number_byte bytes ≡ true
    → (tag_of argument == 91) ≡ false → (tag_of argument == 93) ≡ false → IsPlaced argument bytes
number_placed argument [] some all not_open not_close = absurd (omega arith)
number_placed argument (byte ∷ bytes) some all not_open not_close = go (is_number_byte byte) refl all where
  go : (t : Bool) → is_number_byte byte ≡ t → (t && list_all is_number_byte bytes) ≡ true → IsPlaced argument (byte ∷ bytes)
  go true is all =
      let so = number_byte byte is in
      placed argument byte bytes so.begins (number_solid bytes all) so.opening so.closing not_open not_close
  go false is all = absurd (cc)

decimal_pass : (number : ℕ) → number < 2 ^ 64 → list_all is_number_byte (decimal number) ≡ true
decimal_pass number small = digit_bytes (decimal number) (digits_are number small).all

-- a number of 64 bits and its sign
signed_pass : (number : ℤ) → FitsSigned w64 number → list_all is_number_byte (signed_decimal number) ≡ true
signed_pass (pos number) fits = decimal_pass number (omega (arith, fits.sfits))
signed_pass (negsuc number) fits = decimal_pass (suc number) (omega (arith, fits.sfits))

signed_some : (number : ℤ) → FitsSigned w64 number → 0 < length (signed_decimal number)
signed_some (pos number) fits = decimal_nonempty number (omega (arith, fits.sfits))
signed_some (negsuc number) fits = omega arith

wider : (number : ℤ) → FitsSigned w32 number → FitsSigned w64 number
wider (pos number) fits = record { sfits = omega (arith, fits.sfits) }
wider (negsuc number) fits = record { sfits = omega (arith, fits.sfits) }

begun_some : (bytes : List ℕ) → begins_number bytes ≡ true → 0 < length bytes
begun_some [] is = absurd (cc)
begun_some (byte ∷ bytes) is = omega arith

-- Digits of bytes.

digit_solid : (byte digit : ℕ) → hex_digit_value byte ≡ Some digit → is_solid byte ≡ true
digit_solid byte digit is = grind (arith, nat_tests)

pub hex_solid : (bytes : List ℕ) → IsBytes bytes → list_all is_solid (encode_lower bytes) ≡ true
unfolding encode_with
hex_solid [] each = refl
hex_solid (byte ∷ bytes) each =
    let small : byte < 256 = each 0 in
    let high : is_solid (slice_index lower_digits (byte / 16)) ≡ true =
    digit_solid (slice_index lower_digits (byte / 16)) (byte / 16) (IsDigits-lower_digits (byte / 16) (omega arith)) in
    let low : is_solid (slice_index lower_digits (byte % 16)) ≡ true =
    digit_solid (slice_index lower_digits (byte % 16)) (byte % 16) (IsDigits-lower_digits (byte % 16) (omega arith)) in
    rw (high, low) (hex_solid bytes (λ k. each (suc k)))

word_solid : (number : ℕ) → list_all is_solid (encode_lower (word number)) ≡ true
word_solid number = hex_solid (word number) (bytes_small 4 number)

tag_solid : (number : ℕ) → list_all is_solid (encode_lower (tag number)) ≡ true
tag_solid number = hex_solid (tag number) (bytes_small 8 number)

-- A type, a colon and a value.

tagged : (argument : Argument) (letter : ℕ) (value : List ℕ) → BeginsPlain letter → letter == 91 ≡ false → letter == 93 ≡ false
    → (tag_of argument == 91) ≡ false → (tag_of argument == 93) ≡ false → list_all is_solid value ≡ true
    → IsPlaced argument (letter ∷ 58 ∷ value)
tagged argument letter value begins one other not_open not_close solid =
    placed argument letter (58 ∷ value) begins solid one other not_open not_close

float_placed : (bits : ℕ) (said : List ℕ) → IsFloat bits said → IsPlaced (float bits) said
float_placed bits said is = go (is_finite binary32 bits) refl where
  go : (t : Bool) → is_finite binary32 bits ≡ t → IsPlaced (float bits) said
  go true finite =
      let shape = decimal_word 13 5 said (is.finite finite).layout in
      number_placed (float bits) said (begun_some said shape.number) shape.pass refl refl
  go false other =
      subst (IsPlaced (float bits)) (sym (is.other other))
      (tagged (float bits) 102 (encode_lower (word bits)) (record { blank = refl; hash = refl; mode = refl; solid = refl }) refl refl refl refl (word_solid bits))

double_placed : (bits : ℕ) (said : List ℕ) → IsDouble bits said → IsPlaced (double bits) said
double_placed bits said is = go (is_finite binary64 bits) refl where
  begins : BeginsPlain 100
  begins = record { blank = refl; hash = refl; mode = refl; solid = refl }

  go : (t : Bool) → is_finite binary64 bits ≡ t → IsPlaced (double bits) said
  go true finite =
      let number = is.finite finite in
      let shape = decimal_word 16 4 number.0 number.1.layout in
      subst (IsPlaced (double bits)) (sym number.2)
      (tagged (double bits) 100 number.0 begins refl refl refl refl (number_solid number.0 shape.pass))
  go false other =
      subst (IsPlaced (double bits)) (sym (is.other other))
      (tagged (double bits) 100 (encode_lower (tag bits)) begins refl refl refl refl (tag_solid bits))

-- Texts.

text_found : (bytes shown after : List ℕ) → IsFound (34 ∷ (shown ++ 34 ∷ after)) → IsVisible shown → list_all is_solid after ≡ true
    → IsPlaced (text bytes) (34 ∷ (shown ++ 34 ∷ after))
text_found bytes shown after found all solid =
    record { found = found; opens = refl; closes = refl; visible = visible_both shown (34 ∷ after) all (visible_solid after solid) }

text_placed : (bytes : List ℕ) → has_no_zero bytes ≡ true → AreBytes bytes → IsPlaced (text bytes) (quoted bytes)
text_placed bytes none each =
    let is = framed_text bytes none each in
    subst (IsPlaced (text bytes)) (sym is.is)
    (text_found bytes is.shown is.after (found_text is.shown is.after is.skips is.solid) is.visible is.solid)

symbol_found : (bytes shown after : List ℕ) → IsFound (83 ∷ 58 ∷ 34 ∷ (shown ++ 34 ∷ after)) → IsVisible shown → list_all is_solid after ≡ true
    → IsPlaced (symbol bytes) (codes "S:" ++ (34 ∷ (shown ++ 34 ∷ after)))
symbol_found bytes shown after found all solid =
    record { found = found; opens = refl; closes = refl; visible = visible_both shown (34 ∷ after) all (visible_solid after solid) }

symbol_placed : (bytes : List ℕ) → has_no_zero bytes ≡ true → AreBytes bytes → IsPlaced (symbol bytes) (codes "S:" ++ quoted bytes)
symbol_placed bytes none each =
    let is = framed_text bytes none each in
    subst (λ (l : List ℕ). IsPlaced (symbol bytes) (codes "S:" ++ l)) (sym is.is)
    (symbol_found bytes is.shown is.after (found_symbol is.shown is.after is.skips is.solid) is.visible is.solid)

-- Blobs and characters.

solid_both : (one other : List ℕ) → list_all is_solid one ≡ true → list_all is_solid other ≡ true → list_all is_solid (one ++ other) ≡ true
solid_both one other first second =
    list_all-append is_solid one other ∙ ap (λ (b : Bool). b && list_all is_solid other) first ∙ second

first_bytes : (most : ℕ) (bytes : List ℕ) → AreBytes bytes → AreBytes (take most bytes)
first_bytes zero bytes each k = omega arith
first_bytes (suc most) [] each k = omega arith
first_bytes (suc most) (byte ∷ bytes) each zero = each 0
first_bytes (suc most) (byte ∷ bytes) each (suc k) = first_bytes most bytes (λ k. each (suc k)) k

blob_placed : (bytes : List ℕ) → AreBytes bytes → IsPlaced (content bytes) (blob_text bytes)
blob_placed bytes each = go (nat_le (length bytes) 8) where
  begins : BeginsPlain 98
  begins = record { blank = refl; hash = refl; mode = refl; solid = refl }

  go : (t : Bool)
      → IsPlaced (content bytes)
      (cond t (codes "b:" ++ encode_lower bytes) (codes "b:" ++ encode_lower (take 8 bytes) ++ codes ".." ++ decimal (length bytes)))
  go true = tagged (content bytes) 98 (encode_lower bytes) begins refl refl refl refl (hex_solid bytes each)
  go false =
      subst (IsPlaced (content bytes)) (sym (cut_word (encode_lower (take 8 bytes)) (decimal (length bytes))))
      (tagged (content bytes) 98 (encode_lower (take 8 bytes) ++ 46 ∷ 46 ∷ decimal (length bytes)) begins refl refl refl refl
      (solid_both (encode_lower (take 8 bytes)) (46 ∷ 46 ∷ decimal (length bytes)) (hex_solid (take 8 bytes) (first_bytes 8 bytes each))
      (decimal_solid (length bytes))))

letter_solid : (number : ℕ) → (nat_le 33 number && nat_le number 126) ≡ true → list_all is_solid (number ∷ []) ≡ true
letter_solid number is = let one : is_solid number ≡ true = grind (arith, nat_tests) in ap (λ (b : Bool). b && true) one

character_placed : (number : ℕ) → IsPlaced (character number) (character_text number)
character_placed number = go (nat_le 33 number && nat_le number 126) refl where
  begins : BeginsPlain 99
  begins = record { blank = refl; hash = refl; mode = refl; solid = refl }

  go : (t : Bool) → (nat_le 33 number && nat_le number 126) ≡ t
      → IsPlaced (character number) (cond t (codes "c:" ++ number ∷ []) (codes "c:" ++ encode_lower (word number)))
  go true is = tagged (character number) 99 (number ∷ []) begins refl refl refl refl (letter_solid number is)
  go false is = tagged (character number) 99 (encode_lower (word number)) begins refl refl refl refl (word_solid number)

-- All kinds.

named : (argument : Argument) (first : ℕ) (rest : List ℕ) (said : List ℕ) → said ≡ first ∷ rest → IsPlaced argument (first ∷ rest) → IsPlaced argument said
named argument first rest said is found = subst (IsPlaced argument) (sym is) found

pub word_placed : (argument : Argument) (said : List ℕ) → Fits argument → IsOfBytes argument → IsWord false argument said → IsPlaced argument said
word_placed (integer number) said fits bytes is =
    subst (IsPlaced (integer number)) (sym is)
    (number_placed (integer number) (signed_decimal number) (signed_some number (wider number fits)) (signed_pass number (wider number fits)) refl refl)
word_placed (float bits) said fits bytes is = float_placed bits said is
word_placed (text letters) said fits bytes is = subst (IsPlaced (text letters)) (sym is) (text_placed letters fits bytes)
word_placed (content blob) said fits bytes is = subst (IsPlaced (content blob)) (sym is) (blob_placed blob bytes)
word_placed (long number) said fits bytes is =
    subst (IsPlaced (long number)) (sym is)
    (tagged (long number) 104 (signed_decimal number) (record { blank = refl; hash = refl; mode = refl; solid = refl }) refl refl refl refl
    (number_solid (signed_decimal number) (signed_pass number fits)))
word_placed (time number) said fits bytes is =
    subst (IsPlaced (time number)) (sym is)
    (tagged (time number) 116 (encode_lower (tag number)) (record { blank = refl; hash = refl; mode = refl; solid = refl }) refl refl refl refl (tag_solid number))
word_placed (double bits) said fits bytes is = double_placed bits said is
word_placed (symbol letters) said fits bytes is = subst (IsPlaced (symbol letters)) (sym is) (symbol_placed letters fits bytes)
word_placed (character number) said fits bytes is = subst (IsPlaced (character number)) (sym is) (character_placed number)
word_placed (rgba number) said fits bytes is =
    subst (IsPlaced (rgba number)) (sym is)
    (tagged (rgba number) 114 (encode_lower (word number)) (record { blank = refl; hash = refl; mode = refl; solid = refl }) refl refl refl refl (word_solid number))
word_placed (midi number) said fits bytes is =
    subst (IsPlaced (midi number)) (sym is)
    (tagged (midi number) 109 (encode_lower (word number)) (record { blank = refl; hash = refl; mode = refl; solid = refl }) refl refl refl refl (word_solid number))
word_placed true_ said fits bytes is =
    named true_ 116 (codes "rue") said is (placed true_ 116 (codes "rue") (record { blank = refl; hash = refl; mode = refl; solid = refl }) refl refl refl refl refl)
word_placed false_ said fits bytes is =
    named false_ 102 (codes "alse") said is (placed false_ 102 (codes "alse") (record { blank = refl; hash = refl; mode = refl; solid = refl }) refl refl refl refl refl)
word_placed nil said fits bytes is =
    named nil 110 (codes "il") said is (placed nil 110 (codes "il") (record { blank = refl; hash = refl; mode = refl; solid = refl }) refl refl refl refl refl)
word_placed infinitum said fits bytes is =
    named infinitum 105 (codes "nfinitum") said is
    (placed infinitum 105 (codes "nfinitum") (record { blank = refl; hash = refl; mode = refl; solid = refl }) refl refl refl refl refl)
word_placed array_start said fits bytes is =
    named array_start 91 [] said is
    (record { found = found_plain 91 [] (record { blank = refl; hash = refl; mode = refl; solid = refl }) refl; opens = refl; closes = refl; visible = refl })
word_placed array_end said fits bytes is =
    named array_end 93 [] said is
    (record { found = found_plain 93 [] (record { blank = refl; hash = refl; mode = refl; solid = refl }) refl; opens = refl; closes = refl; visible = refl })
