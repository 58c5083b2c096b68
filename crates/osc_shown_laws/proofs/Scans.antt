-- How the words of a line are found.
use Rattle.std.proofs.Common.{◌≡◌, ℕ, suc, ◌+◌, ◌/◌, ◌%◌, ◌<◌, ◌==◌, ◌&&◌, Bool, true, false, cond, nat_lt, nat_le, List, [], ◌∷◌, ◌++◌, length, Some, None, Ok, refl, ap, ◌∙◌}
use Rattle.std.proofs.Common.{arith, eqb-true, append_assoc, length-append}
use Rattle.std.specs.Prelude.{encode_utf8, slice_index}
use Rattle.std.specs.List.{flat_map, list_all}
use Rattle.std.specs.Str.{encode_utf8_all}
use Rattle.std.proofs.lemmas.Bool.{cond-false}
use Rattle.std.proofs.lemmas.Bool.Decides.{nat_tests}
use Rattle.hex.specs.Hex.{encode_with, lower_digits, hex_digit_value}
use Rattle.hex.proofs.HexLemmas.{IsDigits-lower_digits}
use Rattle.osc_shown.specs.Texts.{is_printed, is_marked, escaped_byte, escaped, shown_byte, shown_char}
use Rattle.osc_cues.specs.Words.{unscanned, is_blank, front_mode, quoted_mode, between, scanned, finished_at}
use Rattle.osc_shown_laws.proofs.Letters.{AreLetters, AreHigh, high_char, first_part, other_part}

-- the types of these values, which have no names outside of their crate
abbrev pub type_of : {X : Type 0} → X → Type 0
type_of {X} value = X

abbrev part_of : {X : Type 0} → List X → Type 0
part_of {X} values = X

abbrev pub Scan : Type 0
Scan = type_of unscanned

abbrev pub Mode : Type 0
Mode = type_of unscanned.mode

abbrev pub Span : Type 0
Span = part_of unscanned.spans

-- between words, outside quotes, between quotes
abbrev pub Between : Mode
Between = unscanned.mode

abbrev pub Plain : Mode
Plain = front_mode 47

abbrev pub Quoted : Mode
Quoted = front_mode 34

abbrev pub state : Mode → ℕ → ℕ → List Span → Scan
state mode begun opened spans = record { mode = mode; begun = begun; opened = opened; spans = spans }

abbrev pub span : ℕ → ℕ → Span
span from to = record { from = from; to = to }

pub blank_after : (place begun opened : ℕ) (spans : List Span) (rest : List ℕ)
    → scanned place (state Plain begun opened spans) (32 ∷ rest)
    ≡ scanned (place + 1) (state Between begun opened (spans ++ span begun place ∷ [])) rest
blank_after place begun opened spans rest = refl

pub end_after : (begun opened end : ℕ) (spans : List Span) → finished_at (state Plain begun opened spans) end ≡ Ok (spans ++ span begun end ∷ [])
end_after begun opened end spans = refl

-- Within a word, outside quotes.

-- any byte above the space
abbrev pub is_solid : ℕ → Bool
is_solid byte = nat_le 33 byte

solid_isnt : (byte : ℕ) → is_solid byte ≡ true → is_blank byte ≡ false
solid_isnt byte is = grind (arith, nat_tests)

pub plain_on : (bytes : List ℕ) (place begun opened : ℕ) (spans : List Span) (rest : List ℕ) → list_all is_solid bytes ≡ true
    → scanned place (state Plain begun opened spans) (bytes ++ rest) ≡ scanned (place + length bytes) (state Plain begun opened spans) rest
plain_on [] place begun opened spans rest all = ap (λ (n : ℕ). scanned n (state Plain begun opened spans) rest) (omega arith)
plain_on (byte ∷ bytes) place begun opened spans rest all = go (is_solid byte) refl all (plain_on bytes) where
  sum : place + 1 + length bytes ≡ place + suc (length bytes)
  sum = omega arith

  go : (t : Bool) → is_solid byte ≡ t → (t && list_all is_solid bytes) ≡ true
      → ((place begun opened : ℕ) (spans : List Span) (rest : List ℕ) → list_all is_solid bytes ≡ true
      → scanned place (state Plain begun opened spans) (bytes ++ rest) ≡ scanned (place + length bytes) (state Plain begun opened spans) rest)
      → scanned place (state Plain begun opened spans) (byte ∷ (bytes ++ rest)) ≡ scanned (place + suc (length bytes)) (state Plain begun opened spans) rest
  go true is all later =
      ap (λ (s : Scan). scanned (place + 1) s (bytes ++ rest)) (cond-false _ _ _ (solid_isnt byte is))
      ∙ later (place + 1) begun opened spans rest all
      ∙ ap (λ (n : ℕ). scanned n (state Plain begun opened spans) rest) sum
  go false is all later = absurd (cc)

-- Between quotes.

abbrev pub Skips : List ℕ → Type 0
Skips shown =
    (place begun opened : ℕ) (spans : List Span) (rest : List ℕ)
    → scanned place (state Quoted begun opened spans) (shown ++ rest) ≡ scanned (place + length shown) (state Quoted begun opened spans) rest

skips_none : Skips []
skips_none place begun opened spans rest = ap (λ (n : ℕ). scanned n (state Quoted begun opened spans) rest) (omega arith)

skips_both : (one other : List ℕ) → Skips one → Skips other → Skips (one ++ other)
skips_both one other first second place begun opened spans rest =
    let sum : place + length one + length other ≡ place + length (one ++ other) = omega (arith, length-append one other) in
    ap (λ (l : List ℕ). scanned place (state Quoted begun opened spans) l) (append_assoc one other rest)
    ∙ first place begun opened spans (other ++ rest) ∙ second (place + length one) begun opened spans rest
    ∙ ap (λ (n : ℕ). scanned n (state Quoted begun opened spans) rest) sum

record IsInner (byte : ℕ) : Type 0 where
  quote : byte == 34 ≡ false
  slash : byte == 92 ≡ false

stays : (byte : ℕ) → IsInner byte → quoted_mode byte ≡ Quoted
stays byte is = rw (is.quote, is.slash) refl

skips_inner : (byte : ℕ) → IsInner byte → Skips (byte ∷ [])
skips_inner byte is place begun opened spans rest =
    ap (λ (m : Mode). scanned (place + 1) (state m begun opened spans) rest) (stays byte is)

skips_marked : (byte : ℕ) → Skips (92 ∷ byte ∷ [])
skips_marked byte place begun opened spans rest =
    ap (λ (n : ℕ). scanned n (state Quoted begun opened spans) rest) (omega arith)

digit_inner : (byte digit : ℕ) → hex_digit_value byte ≡ Some digit → IsInner byte
digit_inner byte digit is = record { quote = isnt 34 refl (byte == 34) refl; slash = isnt 92 refl (byte == 92) refl } where
  isnt : (other : ℕ) → hex_digit_value other ≡ None → (t : Bool) → byte == other ≡ t → t ≡ false
  isnt other none true same = absurd (
      let equal : byte ≡ other = eqb-true byte other same in
      let is_none : hex_digit_value byte ≡ None = ap hex_digit_value equal ∙ none in cc (is, is_none)
      )
  isnt other none false same = refl

skips_escaped : (byte : ℕ) → byte < 256 → Skips (escaped_byte byte)
unfolding encode_with
skips_escaped byte small =
    let high : ℕ = slice_index lower_digits (byte / 16) in
    let low : ℕ = slice_index lower_digits (byte % 16) in
    skips_both (92 ∷ 120 ∷ []) (high ∷ low ∷ []) (skips_marked 120)
    (skips_both (high ∷ []) (low ∷ [])
    (skips_inner high (digit_inner high (byte / 16) (IsDigits-lower_digits (byte / 16) (omega arith))))
    (skips_inner low (digit_inner low (byte % 16) (IsDigits-lower_digits (byte % 16) (omega arith)))))

skips_byte : (byte : ℕ) → byte < 256 → Skips (shown_byte byte)
skips_byte byte small = go (is_marked byte) (is_printed byte) refl where
  go : (t u : Bool) → is_marked byte ≡ t → Skips (cond t (92 ∷ byte ∷ []) (cond u (byte ∷ []) (escaped_byte byte)))
  go true u is = skips_marked byte
  go false true is = skips_inner byte (record { quote = grind (arith, nat_tests); slash = grind (arith, nat_tests) })
  go false false is = skips_escaped byte small

pub skips_bytes : (bytes : List ℕ) → AreLetters bytes → Skips (flat_map shown_byte bytes)
skips_bytes [] are = skips_none
skips_bytes (byte ∷ bytes) are =
    skips_both (shown_byte byte) (flat_map shown_byte bytes) (skips_byte byte are.1) (skips_bytes bytes are.2)

skips_all_escaped : (bytes : List ℕ) → AreLetters bytes → Skips (escaped bytes)
skips_all_escaped [] are = skips_none
skips_all_escaped (byte ∷ bytes) are =
    skips_both (escaped_byte byte) (escaped bytes) (skips_escaped byte are.1) (skips_all_escaped bytes are.2)

skips_high : (bytes : List ℕ) → AreHigh bytes → Skips bytes
skips_high [] are = skips_none
skips_high (byte ∷ bytes) are =
    let large = are.0 in
    skips_both (byte ∷ []) bytes (skips_inner byte (record { quote = grind (arith, nat_tests); slash = grind (arith, nat_tests) }))
    (skips_high bytes are.1)

skips_char : (letter : ℕ) → AreLetters (encode_utf8 letter) → Skips (shown_char letter)
skips_char letter are = go (nat_lt letter 128) (nat_lt letter 160) refl where
  go : (t u : Bool) → nat_lt letter 128 ≡ t → Skips (cond t (shown_byte letter) (cond u (escaped (encode_utf8 letter)) (encode_utf8 letter)))
  go true u is = skips_byte letter (grind (arith, nat_tests))
  go false true is = skips_all_escaped (encode_utf8 letter) are
  go false false is = skips_high (encode_utf8 letter) (high_char letter (grind (arith, nat_tests)))

pub skips_chars : (letters : List ℕ) → AreLetters (encode_utf8_all letters) → Skips (flat_map shown_char letters)
skips_chars [] are = skips_none
skips_chars (letter ∷ letters) are =
    skips_both (shown_char letter) (flat_map shown_char letters)
    (skips_char letter (first_part (encode_utf8 letter) (encode_utf8_all letters) are))
    (skips_chars letters (other_part (encode_utf8 letter) (encode_utf8_all letters) are))

-- One word, after which a space or the end may follow.

pub record Found (word : List ℕ) (place begun opened : ℕ) (spans : List Span) : Type 0 where
  pub quote : ℕ
  pub is : (rest : List ℕ) → scanned place (state Between begun opened spans) (word ++ rest)
      ≡ scanned (place + length word) (state Plain place quote spans) rest

abbrev pub IsFound : List ℕ → Type 0
IsFound word = (place begun opened : ℕ) (spans : List Span) → Found word place begun opened spans

-- a byte that begins a word without quotes
pub record BeginsPlain (byte : ℕ) : Type 0 where
  pub blank : is_blank byte ≡ false
  pub hash : byte == 35 ≡ false
  pub mode : front_mode byte ≡ Plain
  pub solid : is_solid byte ≡ true

pub found_plain : (first : ℕ) (rest : List ℕ) → BeginsPlain first → list_all is_solid rest ≡ true → IsFound (first ∷ rest)
found_plain first word is solid place begun opened spans = record {
  quote = place;
  is = λ rest.
      let begins : between (state Between begun opened spans) place first ≡ state Plain place place spans =
      cond-false _ _ _ is.blank ∙ cond-false _ _ _ is.hash ∙ ap (λ (m : Mode). state m place place spans) is.mode in
      let sum : place + 1 + length word ≡ place + suc (length word) = omega arith in
      ap (λ (s : Scan). scanned (place + 1) s (word ++ rest)) begins
      ∙ plain_on word (place + 1) place place spans rest solid
      ∙ ap (λ (n : ℕ). scanned n (state Plain place place spans) rest) sum;
}

-- a text between quotes
closes_on : (shown : List ℕ) (place begun opened : ℕ) (spans : List Span) (rest : List ℕ) → Skips shown
    → scanned place (state Quoted begun opened spans) (shown ++ 34 ∷ rest)
    ≡ scanned (place + length shown + 1) (state Plain begun opened spans) rest
closes_on shown place begun opened spans rest skips = skips place begun opened spans (34 ∷ rest)

pub found_text : (shown after : List ℕ) → Skips shown → list_all is_solid after ≡ true → IsFound (34 ∷ (shown ++ 34 ∷ after))
found_text shown after skips solid place begun opened spans = record {
  quote = place;
  is = λ rest.
      let sum : place + 1 + length shown + 1 + length after ≡ place + length (34 ∷ (shown ++ 34 ∷ after)) =
      omega (arith, length-append shown (34 ∷ after)) in
      ap (λ (l : List ℕ). scanned (place + 1) (state Quoted place place spans) l) (append_assoc shown (34 ∷ after) rest)
      ∙ closes_on shown (place + 1) place place spans (after ++ rest) skips
      ∙ plain_on after (place + 1 + length shown + 1) place place spans rest solid
      ∙ ap (λ (n : ℕ). scanned n (state Plain place place spans) rest) sum;
}

pub found_symbol : (shown after : List ℕ) → Skips shown → list_all is_solid after ≡ true
    → IsFound (83 ∷ 58 ∷ 34 ∷ (shown ++ 34 ∷ after))
found_symbol shown after skips solid place begun opened spans = record {
  quote = place + 1 + 1;
  is = λ rest.
      let sum : place + 1 + 1 + 1 + length shown + 1 + length after ≡ place + length (83 ∷ 58 ∷ 34 ∷ (shown ++ 34 ∷ after)) =
      omega (arith, length-append shown (34 ∷ after)) in
      ap (λ (l : List ℕ). scanned (place + 1 + 1 + 1) (state Quoted place (place + 1 + 1) spans) l) (append_assoc shown (34 ∷ after) rest)
      ∙ closes_on shown (place + 1 + 1 + 1) place (place + 1 + 1) spans (after ++ rest) skips
      ∙ plain_on after (place + 1 + 1 + 1 + length shown + 1) place (place + 1 + 1) spans rest solid
      ∙ ap (λ (n : ℕ). scanned n (state Plain place (place + 1 + 1) spans) rest) sum;
}
