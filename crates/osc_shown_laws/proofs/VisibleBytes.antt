-- What is shown has no control characters, so a line of it is one line.
use Rattle.std.proofs.Common.{◌≡◌, ℕ, zero, suc, ◌-◌, ◌/◌, ◌%◌, ◌<◌, ◌≤◌, ◌==◌, ◌&&◌, Bool, true, false, cond, nat_lt, nat_le, List, [], ◌∷◌, ◌++◌, length, take, drop, Some, refl, ap, ◌∙◌}
use Rattle.std.proofs.Common.{arith}
use Rattle.std.specs.Prelude.{encode_utf8, slice_index, bytes_eq}
use Rattle.std.specs.List.{flat_map, list_all, All, slice_split}
use Rattle.std.specs.Str.{encode_utf8_all}
use Rattle.std.proofs.lemmas.Bool.Decides.{nat_tests}
use Rattle.std.proofs.lemmas.List.Elements.{All-nil, All-cons}
use Rattle.std.proofs.lemmas.List.Folds.{list_all-append}
use Rattle.std.proofs.lemmas.List.Splits.{slice_split_at}
use Rattle.hex.specs.Hex.{encode_with, lower_digits, hex_digit_value}
use Rattle.hex.proofs.HexLemmas.{IsDigits-lower_digits}
use Rattle.osc_shown.specs.Texts.{is_printed, is_marked, escaped_byte, escaped, shown_byte, shown_char}
use Rattle.osc_cues.specs.Words.{is_line_feed, without_return}
use Rattle.osc_shown_laws.proofs.Letters.{AreLetters, AreHigh, high_char, first_part, other_part}
use Rattle.osc_shown_laws.proofs.Scans.{is_solid}

-- a space, or any byte above it
abbrev pub is_visible : ℕ → Bool
is_visible byte = nat_le 32 byte

abbrev pub IsVisible : List ℕ → Type 0
IsVisible bytes = list_all is_visible bytes ≡ true

pub visible_both : (one other : List ℕ) → IsVisible one → IsVisible other → IsVisible (one ++ other)
visible_both one other first second = list_all-append is_visible one other ∙ ap (λ (b : Bool). b && list_all is_visible other) first ∙ second

pub visible_first : (byte : ℕ) (bytes : List ℕ) → 32 ≤ byte → IsVisible bytes → IsVisible (byte ∷ bytes)
visible_first byte bytes large all =
    let one : is_visible byte ≡ true = grind (arith, nat_tests) in ap (λ (b : Bool). b && list_all is_visible bytes) one ∙ all

solid_large : (byte : ℕ) → is_solid byte ≡ true → 32 ≤ byte
solid_large byte is = grind (arith, nat_tests)

pub visible_solid : (bytes : List ℕ) → list_all is_solid bytes ≡ true → IsVisible bytes
visible_solid [] all = refl
visible_solid (byte ∷ bytes) all = go (is_solid byte) refl all (visible_solid bytes) where
  go : (t : Bool) → is_solid byte ≡ t → (t && list_all is_solid bytes) ≡ true → (list_all is_solid bytes ≡ true → IsVisible bytes)
      → IsVisible (byte ∷ bytes)
  go true is all later = visible_first byte bytes (solid_large byte is) (later all)
  go false is all later = absurd (cc)

-- Texts.

digit_large : (byte digit : ℕ) → hex_digit_value byte ≡ Some digit → 32 ≤ byte
digit_large byte digit is = grind (arith, nat_tests)

visible_escaped : (byte : ℕ) → byte < 256 → IsVisible (escaped_byte byte)
unfolding encode_with
visible_escaped byte small =
    let high : ℕ = slice_index lower_digits (byte / 16) in
    let low : ℕ = slice_index lower_digits (byte % 16) in
    visible_first high (low ∷ []) (digit_large high (byte / 16) (IsDigits-lower_digits (byte / 16) (omega arith)))
    (visible_first low [] (digit_large low (byte % 16) (IsDigits-lower_digits (byte % 16) (omega arith))) refl)

visible_byte : (byte : ℕ) → byte < 256 → IsVisible (shown_byte byte)
visible_byte byte small = go (is_marked byte) (is_printed byte) refl refl where
  go : (t u : Bool) → is_marked byte ≡ t → is_printed byte ≡ u → IsVisible (cond t (92 ∷ byte ∷ []) (cond u (byte ∷ []) (escaped_byte byte)))
  go true u is other = visible_first byte [] (grind (arith, nat_tests)) refl
  go false true is other = visible_first byte [] (grind (arith, nat_tests)) refl
  go false false is other = visible_escaped byte small

pub visible_bytes : (bytes : List ℕ) → AreLetters bytes → IsVisible (flat_map shown_byte bytes)
visible_bytes [] are = refl
visible_bytes (byte ∷ bytes) are =
    visible_both (shown_byte byte) (flat_map shown_byte bytes) (visible_byte byte are.1) (visible_bytes bytes are.2)

visible_all_escaped : (bytes : List ℕ) → AreLetters bytes → IsVisible (escaped bytes)
visible_all_escaped [] are = refl
visible_all_escaped (byte ∷ bytes) are =
    visible_both (escaped_byte byte) (escaped bytes) (visible_escaped byte are.1) (visible_all_escaped bytes are.2)

visible_high : (bytes : List ℕ) → AreHigh bytes → IsVisible bytes
visible_high [] are = refl
visible_high (byte ∷ bytes) are = let large = are.0 in visible_first byte bytes (omega arith) (visible_high bytes are.1)

visible_char : (letter : ℕ) → AreLetters (encode_utf8 letter) → IsVisible (shown_char letter)
visible_char letter are = go (nat_lt letter 128) (nat_lt letter 160) refl where
  go : (t u : Bool) → nat_lt letter 128 ≡ t → IsVisible (cond t (shown_byte letter) (cond u (escaped (encode_utf8 letter)) (encode_utf8 letter)))
  go true u is = visible_byte letter (grind (arith, nat_tests))
  go false true is = visible_all_escaped (encode_utf8 letter) are
  go false false is = visible_high (encode_utf8 letter) (high_char letter (grind (arith, nat_tests)))

pub visible_chars : (letters : List ℕ) → AreLetters (encode_utf8_all letters) → IsVisible (flat_map shown_char letters)
visible_chars [] are = refl
visible_chars (letter ∷ letters) are =
    visible_both (shown_char letter) (flat_map shown_char letters)
    (visible_char letter (first_part (encode_utf8 letter) (encode_utf8_all letters) are))
    (visible_chars letters (other_part (encode_utf8 letter) (encode_utf8_all letters) are))

-- Lines.

abbrev NoFeed : ℕ → Type 0
NoFeed byte = is_line_feed byte ≡ false

no_feed : (byte : ℕ) → is_visible byte ≡ true → is_line_feed byte ≡ false
no_feed byte is = grind (arith, nat_tests)

no_return : (byte : ℕ) → is_visible byte ≡ true → 13 == byte ≡ false
no_return byte is = grind (arith, nat_tests)

feed_free : (line : List ℕ) → IsVisible line → All NoFeed line
feed_free [] all = All-nil NoFeed
feed_free (byte ∷ line) all = go (is_visible byte) refl all (feed_free line) where
  go : (t : Bool) → is_visible byte ≡ t → (t && list_all is_visible line) ≡ true → (IsVisible line → All NoFeed line) → All NoFeed (byte ∷ line)
  go true is all later = All-cons NoFeed byte line (no_feed byte is) (later all)
  go false is all later = absurd (cc)

visible_rest : (k : ℕ) (line : List ℕ) → IsVisible line → IsVisible (drop k line)
visible_rest zero line all = all
visible_rest (suc k) [] all = refl
visible_rest (suc k) (byte ∷ line) all = go (is_visible byte) all (visible_rest k line) where
  go : (t : Bool) → (t && list_all is_visible line) ≡ true → (IsVisible line → IsVisible (drop k line)) → IsVisible (drop k line)
  go true all later = later all
  go false all later = absurd (cc)

not_returned : (last : List ℕ) → IsVisible last → bytes_eq (13 ∷ []) last ≡ false
not_returned [] all = refl
not_returned (byte ∷ last) all = go (is_visible byte) refl all where
  go : (t : Bool) → is_visible byte ≡ t → (t && list_all is_visible last) ≡ true
      → (13 == byte && bytes_eq [] last) ≡ false
  go true is all = ap (λ (b : Bool). b && bytes_eq [] last) (no_return byte is)
  go false is all = absurd (cc)

-- a line without a carriage return at its end
pub line_kept : (line : List ℕ) → IsVisible line → without_return line ≡ line
line_kept line all =
    ap (λ (b : Bool). cond b (take (length line - 1) line) line)
    (not_returned (drop (length line - 1) line) (visible_rest (length line - 1) line all))

-- the line is cut off at its line feed
pub line_cut : (line others : List ℕ) → IsVisible line → slice_split is_line_feed (line ++ 10 ∷ others) ≡ line ∷ slice_split is_line_feed others
line_cut line others all = slice_split_at is_line_feed line 10 others (feed_free line all) refl
