-- Texts between quotes, whole or cut short.
use Rattle.std.proofs.Common.{◌≡◌, ℕ, zero, suc, ◌+◌, ◌-◌, ◌≤◌, ◌==◌, ◌&&◌, Bool, true, false, cond, nat_le, List, [], ◌∷◌, ◌++◌, length, take, drop, Ok, refl, sym, ap, subst, ◌∙◌}
use Rattle.std.proofs.Common.{arith, append_assoc, length-append, take_at, drop_at}
use Rattle.std.specs.Prelude.{codes, chars, nat_eq, encode_utf8, bytes_eq}
use Rattle.std.specs.List.{flat_map, ends_with, list_all}
use Rattle.std.specs.Str.{is_utf8, encode_utf8_all}
use Rattle.std.specs.Fmt.{decimal}
use Rattle.std.proofs.lemmas.Bool.{cond-true, cond-false}
use Rattle.std.proofs.lemmas.Bool.Decides.{nat_tests}
use Rattle.std.proofs.lemmas.List.{take_all}
use Rattle.std.proofs.lemmas.Str.{IsUtf8-from_is_utf8, encodes-chars}
use Rattle.osc_atoms.specs.Atoms.{AreBytes, has_no_zero}
use Rattle.osc_shown.specs.Texts.{shown_byte, shown_char, most_shown, rest_text, quoted_text, quoted_bytes, quoted, all_shown, text_word}
use Rattle.osc_cues.specs.declared.fault.Fault.TheVariants.{NotText}
use Rattle.osc_cues.specs.Faults.{wrong_at}
use Rattle.osc_cues.specs.Quoted.{text_read, is_closed, inner, quoted_read}
use Rattle.osc_shown_laws.specs.WholeArguments.{is_short}
use Rattle.osc_shown_laws.proofs.Decimals.{EndsInDigit, decimal_ends, decimal_solid}
use Rattle.osc_shown_laws.proofs.Letters.{AreLetters, letters, first_part, other_part, both_letters, Reads, reads_bytes, reads_chars, all_read}
use Rattle.osc_shown_laws.proofs.VisibleBytes.{IsVisible, visible_bytes, visible_chars}
use Rattle.osc_shown_laws.proofs.Scans.{is_solid, Skips, skips_bytes, skips_chars}

-- the word of a text: what is shown of it between quotes, and what follows
record IsQuoted (whole : Bool) (bytes word : List ℕ) : Type 0 where
  shown : List ℕ
  after : List ℕ
  word_is : word ≡ 34 ∷ (shown ++ 34 ∷ after)
  reads : whole ≡ true → Reads shown bytes
  skips : Skips shown
  visible : IsVisible shown
  solid : list_all is_solid after ≡ true
  no_rest : whole ≡ true → after ≡ []
  rest : whole ≡ false → after ≡ codes ".." ++ decimal (length bytes)

rest_of : (whole : Bool) (size : ℕ) → (whole ≡ true → rest_text whole size ≡ []) × (whole ≡ false → rest_text whole size ≡ codes ".." ++ decimal size)
rest_of true size = (λ is. refl, λ isnt. absurd (cc))
rest_of false size = (λ is. absurd (cc), λ isnt. refl)

rest_solid : (whole : Bool) (size : ℕ) → list_all is_solid (rest_text whole size) ≡ true
rest_solid true size = refl
rest_solid false size = decimal_solid size

few : (n most : ℕ) → nat_le n most ≡ true → n ≤ most
few n most is = grind (arith, nat_tests)

by_chars : (bytes : List ℕ) → is_utf8 bytes ≡ true → AreLetters bytes → nat_le (length (chars bytes)) most_shown ≡ true
    → Reads (flat_map shown_char (take most_shown (chars bytes))) bytes
by_chars bytes is are short =
    let same : encode_utf8_all (chars bytes) ≡ bytes = encodes-chars bytes (IsUtf8-from_is_utf8 bytes is) in
    let all : chars bytes ≡ take most_shown (chars bytes) = sym (take_all most_shown (chars bytes) (few (length (chars bytes)) most_shown short)) in
    subst (λ (l : List ℕ). Reads (flat_map shown_char l) bytes) all
    (subst (Reads (flat_map shown_char (chars bytes))) same
    (reads_chars (chars bytes) (subst AreLetters (sym same) are)))

by_bytes : (bytes : List ℕ) → AreLetters bytes → nat_le (length bytes) most_shown ≡ true
    → Reads (flat_map shown_byte (take most_shown bytes)) bytes
by_bytes bytes are short =
    let all : bytes ≡ take most_shown bytes = sym (take_all most_shown bytes (few (length bytes) most_shown short)) in
    subst (λ (l : List ℕ). Reads (flat_map shown_byte l) bytes) all (reads_bytes bytes are)

-- what is shown of a front of the characters stays between the quotes
front_letters : (most : ℕ) (letters : List ℕ) → AreLetters (encode_utf8_all letters) → AreLetters (encode_utf8_all (take most letters))
front_letters zero letters are = tt
front_letters (suc most) [] are = tt
front_letters (suc most) (letter ∷ letters) are =
    both_letters (encode_utf8 letter) (encode_utf8_all (take most letters)) (first_part (encode_utf8 letter) (encode_utf8_all letters) are)
    (front_letters most letters (other_part (encode_utf8 letter) (encode_utf8_all letters) are))

front_bytes : (most : ℕ) (bytes : List ℕ) → AreLetters bytes → AreLetters (take most bytes)
front_bytes zero bytes are = tt
front_bytes (suc most) [] are = tt
front_bytes (suc most) (byte ∷ bytes) are = (are.0, are.1, front_bytes most bytes are.2)

skips_by_chars : (bytes : List ℕ) → is_utf8 bytes ≡ true → AreLetters bytes → Skips (flat_map shown_char (take most_shown (chars bytes)))
skips_by_chars bytes is are =
    let same : encode_utf8_all (chars bytes) ≡ bytes = encodes-chars bytes (IsUtf8-from_is_utf8 bytes is) in
    skips_chars (take most_shown (chars bytes)) (front_letters most_shown (chars bytes) (subst AreLetters (sym same) are))

skips_by_bytes : (bytes : List ℕ) → AreLetters bytes → Skips (flat_map shown_byte (take most_shown bytes))
skips_by_bytes bytes are = skips_bytes (take most_shown bytes) (front_bytes most_shown bytes are)

visible_by_chars : (bytes : List ℕ) → is_utf8 bytes ≡ true → AreLetters bytes → IsVisible (flat_map shown_char (take most_shown (chars bytes)))
visible_by_chars bytes is are =
    let same : encode_utf8_all (chars bytes) ≡ bytes = encodes-chars bytes (IsUtf8-from_is_utf8 bytes is) in
    visible_chars (take most_shown (chars bytes)) (front_letters most_shown (chars bytes) (subst AreLetters (sym same) are))

framed : (shown after : List ℕ) → codes "\"" ++ shown ++ codes "\"" ++ after ≡ 34 ∷ (shown ++ 34 ∷ after)
framed shown after = ap (λ (l : List ℕ). 34 ∷ l) (append_assoc shown (34 ∷ []) after)

quoted_is : (bytes : List ℕ) → AreLetters bytes → IsQuoted (is_short bytes) bytes (quoted bytes)
quoted_is bytes are = go (is_utf8 bytes) refl where
  go : (t : Bool) → is_utf8 bytes ≡ t
      → IsQuoted (nat_le (cond t (length (chars bytes)) (length bytes)) most_shown) bytes (cond t (quoted_text bytes) (quoted_bytes bytes))
  go true is =
      let rest = rest_of (nat_le (length (chars bytes)) most_shown) (length bytes) in
      record {
        shown = flat_map shown_char (take most_shown (chars bytes));
        after = rest_text (nat_le (length (chars bytes)) most_shown) (length bytes);
        word_is = framed (flat_map shown_char (take most_shown (chars bytes)))
            (rest_text (nat_le (length (chars bytes)) most_shown) (length bytes));
        reads = by_chars bytes is are;
        skips = skips_by_chars bytes is are;
        visible = visible_by_chars bytes is are;
        solid = rest_solid (nat_le (length (chars bytes)) most_shown) (length bytes);
        no_rest = rest.0;
        rest = rest.1;
      }
  go false is =
      let rest = rest_of (nat_le (length bytes) most_shown) (length bytes) in
      record {
        shown = flat_map shown_byte (take most_shown bytes);
        after = rest_text (nat_le (length bytes) most_shown) (length bytes);
        word_is = framed (flat_map shown_byte (take most_shown bytes)) (rest_text (nat_le (length bytes) most_shown) (length bytes));
        reads = by_bytes bytes are;
        skips = skips_by_bytes bytes are;
        visible = visible_bytes (take most_shown bytes) (front_bytes most_shown bytes are);
        solid = rest_solid (nat_le (length bytes) most_shown) (length bytes);
        no_rest = rest.0;
        rest = rest.1;
      }

-- a word that ends with this byte
last_byte : (front : List ℕ) (last : ℕ) → drop (length (front ++ last ∷ []) - 1) (front ++ last ∷ []) ≡ last ∷ []
last_byte front last = drop_at front (last ∷ []) (length (front ++ last ∷ []) - 1) (omega (arith, length-append front (last ∷ [])))

ends : (front : List ℕ) (last : ℕ) → ends_with nat_eq (front ++ last ∷ []) (codes "\"") ≡ (34 == last && true)
ends front last = ap (λ (l : List ℕ). bytes_eq (codes "\"") l) (last_byte front last)

long_word : (shown : List ℕ) → nat_le 2 (length (34 ∷ (shown ++ 34 ∷ []))) ≡ true
long_word shown = let long = length-append shown (34 ∷ []) in grind (arith, nat_tests)

closed : (shown : List ℕ) → is_closed (34 ∷ (shown ++ 34 ∷ [])) ≡ true
closed shown =
    ap (λ (b : Bool). b && ends_with nat_eq (34 ∷ (shown ++ 34 ∷ [])) (codes "\"")) (long_word shown) ∙ ends (34 ∷ shown) 34

inner_is : (shown : List ℕ) → inner (34 ∷ (shown ++ 34 ∷ [])) ≡ shown
inner_is shown =
    take_at shown (34 ∷ []) (length (34 ∷ (shown ++ 34 ∷ [])) - 1 - 1) (omega (arith, length-append shown (34 ∷ [])))

read_whole : (at : ℕ) (shown bytes : List ℕ) → Reads shown bytes → quoted_read at (34 ∷ (shown ++ 34 ∷ [])) ≡ Ok bytes
read_whole at shown bytes is =
    let word : List ℕ = 34 ∷ (shown ++ 34 ∷ []) in
    cond-true _ _ _ (closed shown) ∙ ap (text_read true (at + length word - 1)) (inner_is shown)
    ∙ all_read shown bytes (at + length word - 1) is

pub text_whole : (at : ℕ) (bytes : List ℕ) → has_no_zero bytes ≡ true → AreBytes bytes → is_short bytes ≡ true
    → quoted_read at (quoted bytes) ≡ Ok bytes
text_whole at bytes none each short =
    let is = quoted_is bytes (letters bytes none each) in
    ap (quoted_read at) (is.word_is ∙ ap (λ (l : List ℕ). 34 ∷ (is.shown ++ 34 ∷ l)) (is.no_rest short))
    ∙ read_whole at is.shown bytes (is.reads short)

-- a text that is shown uncut
all_reads : (bytes : List ℕ) → AreLetters bytes → Reads (all_shown bytes) bytes
all_reads bytes are = go (is_utf8 bytes) refl where
  go : (t : Bool) → is_utf8 bytes ≡ t → Reads (cond t (flat_map shown_char (chars bytes)) (flat_map shown_byte bytes)) bytes
  go true is =
      let same : encode_utf8_all (chars bytes) ≡ bytes = encodes-chars bytes (IsUtf8-from_is_utf8 bytes is) in
      subst (Reads (flat_map shown_char (chars bytes))) same (reads_chars (chars bytes) (subst AreLetters (sym same) are))
  go false is = reads_bytes bytes are

pub uncut_read : (at : ℕ) (bytes : List ℕ) → has_no_zero bytes ≡ true → AreBytes bytes → quoted_read at (text_word true bytes) ≡ Ok bytes
uncut_read at bytes none each = read_whole at (all_shown bytes) bytes (all_reads bytes (letters bytes none each))

-- a text that was cut short
not_quote : (last : ℕ) → 48 ≤ last → 34 == last ≡ false
not_quote last large = grind (arith, nat_tests)

longer : (front : List ℕ) (size last : ℕ) → length front ≡ size → nat_le 2 (length (34 ∷ (front ++ last ∷ []))) ≡ true
longer front size last is = let long = length-append front (last ∷ []) in grind (arith, nat_tests)

open_end : (front : List ℕ) (last : ℕ) → 48 ≤ last → is_closed (34 ∷ (front ++ last ∷ [])) ≡ false
open_end front last large =
    ap (λ (b : Bool). b && ends_with nat_eq (34 ∷ (front ++ last ∷ [])) (codes "\"")) (longer front (length front) last refl)
    ∙ ends (34 ∷ front) last ∙ ap (λ (b : Bool). b && true) (not_quote last large)

read_cut : (at : ℕ) (front : List ℕ) (last : ℕ) → 48 ≤ last → quoted_read at (34 ∷ (front ++ last ∷ [])) ≡ wrong_at at NotText
read_cut at front last large = cond-false _ _ _ (open_end front last large)

cut_is : (shown : List ℕ) (size : ℕ) (ends : EndsInDigit (decimal size))
    → 34 ∷ (shown ++ 34 ∷ (codes ".." ++ decimal size)) ≡ 34 ∷ ((shown ++ 34 ∷ (codes ".." ++ ends.front)) ++ ends.last ∷ [])
cut_is shown size ends =
    ap (λ (l : List ℕ). 34 ∷ (shown ++ 34 ∷ 46 ∷ 46 ∷ l)) ends.is
    ∙ ap (λ (l : List ℕ). 34 ∷ l) (sym (append_assoc shown (34 ∷ 46 ∷ 46 ∷ ends.front) (ends.last ∷ [])))

pub text_cut : (at : ℕ) (bytes : List ℕ) → has_no_zero bytes ≡ true → AreBytes bytes → is_short bytes ≡ false
    → quoted_read at (quoted bytes) ≡ wrong_at at NotText
text_cut at bytes none each long =
    let is = quoted_is bytes (letters bytes none each) in
    let ends = decimal_ends (length bytes) in
    ap (quoted_read at) (is.word_is ∙ ap (λ (l : List ℕ). 34 ∷ (is.shown ++ 34 ∷ l)) (is.rest long) ∙ cut_is is.shown (length bytes) ends)
    ∙ read_cut at (is.shown ++ 34 ∷ (codes ".." ++ ends.front)) ends.last ends.digit

-- the word of a text begins with a quote
pub quote_first : (bytes : List ℕ) → has_no_zero bytes ≡ true → AreBytes bytes → (rest : List ℕ) × (quoted bytes ≡ 34 ∷ rest)
quote_first bytes none each =
    let is = quoted_is bytes (letters bytes none each) in
    (is.shown ++ 34 ∷ is.after, is.word_is)

-- the word of a text: what is shown of it between quotes, and how many bytes it has if there are more
pub record IsFramed (word : List ℕ) : Type 0 where
  pub shown : List ℕ
  pub after : List ℕ
  pub is : word ≡ 34 ∷ (shown ++ 34 ∷ after)
  pub skips : Skips shown
  pub visible : IsVisible shown
  pub solid : list_all is_solid after ≡ true

pub framed_text : (bytes : List ℕ) → has_no_zero bytes ≡ true → AreBytes bytes → IsFramed (quoted bytes)
framed_text bytes none each =
    let is = quoted_is bytes (letters bytes none each) in
    record {
      shown = is.shown;
      after = is.after;
      is = is.word_is;
      skips = is.skips;
      visible = is.visible;
      solid = is.solid;
    }
