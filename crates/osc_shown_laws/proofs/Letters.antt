-- What stands between quotes is read byte by byte as the text that it is shown of.
use Rattle.std.proofs.Common.{◌≡◌, ℕ, zero, suc, ◌<◌, ◌≤◌, ◌==◌, ◌&&◌, Bool, true, false, cond, not, nat_lt, List, [], ◌∷◌, ◌++◌, length, get_or, Result, Ok, Err, refl, sym, ap, subst, ◌∙◌}
use Rattle.std.proofs.Common.{arith, eqb-true, append_assoc, append-nil, length-append}
use Rattle.std.specs.Prelude.{encode_utf8, option_and_then}
use Rattle.std.specs.List.{flat_map}
use Rattle.std.specs.Result.{result_ok}
use Rattle.std.specs.Str.{encode_utf8_all}
use Rattle.std.proofs.lemmas.Bool.{cond-true}
use Rattle.std.proofs.lemmas.Bool.Decides.{nat_tests}
use Rattle.std.proofs.lemmas.Str.{inside_one, encode_ascii}
use Rattle.hex.specs.Hex.{IsBytes, encode_with}
use Rattle.hex.proofs.HexLemmas.{decode_of-encode_lower}
use Rattle.osc_atoms.specs.Atoms.{AreBytes, has_no_zero}
use Rattle.osc_shown.specs.Texts.{is_printed, is_marked, escaped_byte, escaped, shown_byte, shown_char}
use Rattle.osc_cues.specs.declared.fault.Fault.{Fault}
use Rattle.osc_cues.specs.declared.fault.Fault.TheVariants.{QuotedEscape, ZeroByte}
use Rattle.osc_cues.specs.declared.fault.WordFault.{WordFault}
use Rattle.osc_cues.specs.Quoted.{alone, byte_or, quoted_first, text_read}
use Rattle.osc_cues.proofs.Texts.{onto, byte_on}

-- Texts of bytes, none of them zero.

abbrev pub AreLetters : List ℕ → Type 0
AreLetters [] = Unit {0}
AreLetters (byte ∷ bytes) = (0 < byte) × (byte < 256) × AreLetters bytes

pub letters : (bytes : List ℕ) → has_no_zero bytes ≡ true → AreBytes bytes → AreLetters bytes
letters [] none each = tt
letters (byte ∷ bytes) none each = go (byte == 0) refl none (letters bytes) where
  go : (t : Bool) → byte == 0 ≡ t → (not t && has_no_zero bytes) ≡ true
      → (has_no_zero bytes ≡ true → AreBytes bytes → AreLetters bytes) → AreLetters (byte ∷ bytes)
  go true is none later = absurd (cc)
  go false is none later = (grind (arith, nat_tests), each 0, later none (λ k. each (suc k)))

pub first_part : (one other : List ℕ) → AreLetters (one ++ other) → AreLetters one
first_part [] other are = tt
first_part (byte ∷ one) other are = (are.0, are.1, first_part one other are.2)

pub other_part : (one other : List ℕ) → AreLetters (one ++ other) → AreLetters other
other_part [] other are = are
other_part (byte ∷ one) other are = other_part one other are.2

pub both_letters : (one other : List ℕ) → AreLetters one → AreLetters other → AreLetters (one ++ other)
both_letters [] other first second = second
both_letters (byte ∷ one) other first second = (first.0, first.1, both_letters one other first.2 second)

-- What is shown is read as these bytes, whatever follows it.

abbrev pub Reads : List ℕ → List ℕ → Type 0
Reads shown bytes =
    (end : ℕ) (rest front : List ℕ)
    → onto (front ++ bytes) (text_read true end rest) ≡ onto front (text_read true end (shown ++ rest))

reads_none : Reads [] []
reads_none end rest front = ap (λ (l : List ℕ). onto l (text_read true end rest)) (append-nil front)

reads_both : (one other first second : List ℕ) → Reads one first → Reads other second → Reads (one ++ other) (first ++ second)
reads_both one other first second is next end rest front =
    ap (λ (l : List ℕ). onto l (text_read true end rest)) (sym (append_assoc front first second))
    ∙ next end rest (front ++ first) ∙ is end (other ++ rest) front
    ∙ ap (λ (l : List ℕ). onto front (text_read true end l)) (sym (append_assoc one other rest))

-- a byte that is read of some first letters
reads_one : (shown : List ℕ) (byte : ℕ) → 0 < length shown
    → ((rest : List ℕ) → quoted_first (shown ++ rest) ≡ Ok (byte, rest)) → Reads shown (byte ∷ [])
reads_one shown byte some is end rest front =
    byte_on true end byte (shown ++ rest) rest front (omega (arith, length-append shown rest)) (is rest) (omega (arith, length-append shown rest))

record IsPlain (byte : ℕ) : Type 0 where
  slash : byte == 92 ≡ false
  quote : byte == 34 ≡ false
  zero_ : byte == 0 ≡ false

plain_first : (byte : ℕ) (rest : List ℕ) → IsPlain byte → quoted_first (byte ∷ rest) ≡ Ok (byte, rest)
plain_first byte rest is = rw (is.slash, is.quote, is.zero_) refl

reads_plain : (byte : ℕ) → IsPlain byte → Reads (byte ∷ []) (byte ∷ [])
reads_plain byte is = reads_one (byte ∷ []) byte (omega arith) (λ rest. plain_first byte rest is)

reads_marked : (byte : ℕ) → is_marked byte ≡ true → Reads (92 ∷ byte ∷ []) (byte ∷ [])
reads_marked byte is = reads_one (92 ∷ byte ∷ []) byte (omega arith) (λ rest. cond-true _ _ _ is)

one_byte : (byte : ℕ) → byte < 256 → IsBytes (byte ∷ [])
one_byte byte small zero = small
one_byte byte small (suc k) = omega arith

escape_first : (byte : ℕ) (rest : List ℕ) → 0 < byte → byte < 256 → quoted_first (escaped_byte byte ++ rest) ≡ Ok (byte, rest)
unfolding encode_with
escape_first byte rest some small =
    ap (λ read. byte_or QuotedEscape rest (option_and_then alone (result_ok read))) (decode_of-encode_lower (byte ∷ []) (one_byte byte small))
    ∙ go (byte == 0) refl where
      go : (t : Bool) → byte == 0 ≡ t → cond {A = Result (ℕ × List ℕ) Fault} t (Err ZeroByte) (Ok (byte, rest)) ≡ Ok (byte, rest)
      go true is = absurd (omega (arith, some, eqb-true byte 0 is))
      go false is = refl

long_escape : (byte : ℕ) → 0 < length (escaped_byte byte)
unfolding encode_with
long_escape byte = omega arith

reads_escaped : (byte : ℕ) → 0 < byte → byte < 256 → Reads (escaped_byte byte) (byte ∷ [])
reads_escaped byte some small = reads_one (escaped_byte byte) byte (long_escape byte) (λ rest. escape_first byte rest some small)

pub reads_byte : (byte : ℕ) → 0 < byte → byte < 256 → Reads (shown_byte byte) (byte ∷ [])
reads_byte byte some small = go (is_marked byte) (is_printed byte) refl where
  go : (t u : Bool) → is_marked byte ≡ t → Reads (cond t (92 ∷ byte ∷ []) (cond u (byte ∷ []) (escaped_byte byte))) (byte ∷ [])
  go true u is = reads_marked byte is
  go false true is =
      reads_plain byte (record { slash = grind (arith, nat_tests); quote = grind (arith, nat_tests); zero_ = grind (arith, nat_tests) })
  go false false is = reads_escaped byte some small

-- a text that isn't UTF-8
pub reads_bytes : (bytes : List ℕ) → AreLetters bytes → Reads (flat_map shown_byte bytes) bytes
reads_bytes [] are = reads_none
reads_bytes (byte ∷ bytes) are =
    reads_both (shown_byte byte) (flat_map shown_byte bytes) (byte ∷ []) bytes (reads_byte byte are.0 are.1) (reads_bytes bytes are.2)

-- bytes that are all escaped
reads_all_escaped : (bytes : List ℕ) → AreLetters bytes → Reads (escaped bytes) bytes
reads_all_escaped [] are = reads_none
reads_all_escaped (byte ∷ bytes) are =
    reads_both (escaped_byte byte) (escaped bytes) (byte ∷ []) bytes (reads_escaped byte are.0 are.1) (reads_all_escaped bytes are.2)

-- bytes of characters that aren't ASCII
abbrev pub AreHigh : List ℕ → Type 0
AreHigh [] = Unit {0}
AreHigh (byte ∷ bytes) = (128 ≤ byte) × AreHigh bytes

high : (bytes : List ℕ) → ((k : ℕ) → k < length bytes → 128 ≤ get_or bytes k 0) → AreHigh bytes
high [] each = tt
high (byte ∷ bytes) each = (each 0 (omega arith), high bytes (λ k few. each (suc k) (omega arith)))

reads_high : (bytes : List ℕ) → AreHigh bytes → Reads bytes bytes
reads_high [] are = reads_none
reads_high (byte ∷ bytes) are =
    let large = are.0 in
    reads_both (byte ∷ []) bytes (byte ∷ []) bytes
    (reads_plain byte (record { slash = grind (arith, nat_tests); quote = grind (arith, nat_tests); zero_ = grind (arith, nat_tests) }))
    (reads_high bytes are.1)

not_low : (n : ℕ) → (n < 128 → ⊥) → 128 ≤ n
not_low n isnt = go (nat_lt n 128) refl where
  go : (t : Bool) → nat_lt n 128 ≡ t → 128 ≤ n
  go true is = absurd (isnt (grind (arith, nat_tests)))
  go false is = grind (arith, nat_tests)

pub high_char : (letter : ℕ) → 128 ≤ letter → AreHigh (encode_utf8 letter)
high_char letter large =
    high (encode_utf8 letter) (λ k few. not_low (get_or (encode_utf8 letter) k 0)
    (λ low. let same = inside_one letter [] (encode_utf8 letter) k (sym (append-nil (encode_utf8 letter))) few low in
    absurd (omega (arith, same, low, large))))

reads_ascii : (letter : ℕ) → letter < 128 → AreLetters (encode_utf8 letter) → Reads (shown_byte letter) (encode_utf8 letter)
reads_ascii letter small are =
    let same = encode_ascii letter small in
    let one : AreLetters (letter ∷ []) = subst AreLetters same are in
    subst (Reads (shown_byte letter)) (sym same) (reads_byte letter one.0 one.1)

reads_char : (letter : ℕ) → AreLetters (encode_utf8 letter) → Reads (shown_char letter) (encode_utf8 letter)
reads_char letter are = go (nat_lt letter 128) (nat_lt letter 160) refl where
  go : (t u : Bool) → nat_lt letter 128 ≡ t
      → Reads (cond t (shown_byte letter) (cond u (escaped (encode_utf8 letter)) (encode_utf8 letter))) (encode_utf8 letter)
  go true u is = reads_ascii letter (grind (arith, nat_tests)) are
  go false true is = reads_all_escaped (encode_utf8 letter) are
  go false false is = reads_high (encode_utf8 letter) (high_char letter (grind (arith, nat_tests)))

-- a text of these characters
pub reads_chars : (letters : List ℕ) → AreLetters (encode_utf8_all letters) → Reads (flat_map shown_char letters) (encode_utf8_all letters)
reads_chars [] are = reads_none
reads_chars (letter ∷ letters) are =
    reads_both (shown_char letter) (flat_map shown_char letters) (encode_utf8 letter) (encode_utf8_all letters)
    (reads_char letter (first_part (encode_utf8 letter) (encode_utf8_all letters) are))
    (reads_chars letters (other_part (encode_utf8 letter) (encode_utf8_all letters) are))

no_more : (read : Result (List ℕ) WordFault) → onto [] read ≡ read
no_more (Ok bytes) = refl
no_more (Err wrong) = refl

-- all of it
pub all_read : (shown bytes : List ℕ) (end : ℕ) → Reads shown bytes → text_read true end shown ≡ Ok bytes
all_read shown bytes end is =
    sym (no_more (text_read true end shown))
    ∙ ap (λ (l : List ℕ). onto [] (text_read true end l)) (sym (append-nil shown))
    ∙ sym (is end [] []) ∙ ap (λ (l : List ℕ). Ok l) (append-nil bytes)
