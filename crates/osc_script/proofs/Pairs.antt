-- Digits that are read pair by pair, and a text of digits alone.
use Rattle.std.proofs.Common.{◌≡◌, ℕ, zero, suc, ◌+◌, ◌*◌, ◌-◌, ◌<◌, ◌≤◌, ◌==◌, ◌&&◌, Bool, true, false, nat_lt, Option, Some, None, ◌⊎◌, inl, inr, List, []}
use Rattle.std.proofs.Common.{◌∷◌, ◌++◌, length, take, drop, Ok, refl, sym, ap, ◌∙◌, arith}
use Rattle.std.proofs.Common.{slice_index_or, get_or, length-append}
use Rattle.std.proofs.lemmas.Bool.{and_parts, cases_lt, eqb-true, ltb-true}
use Rattle.std.proofs.lemmas.Bool.Decides.{nat_tests}
use Rattle.std.proofs.lemmas.List.{append-nil, take_all}
use Rattle.std.specs.List.{All, concat}
use Rattle.hex.specs.Hex.{hex_digit_value, is_hex_digit, digit_or_error, value_at, decode_of, decode_pairs, pair_value}
use Rattle.hex.proofs.HexLemmas.{decode_of-ok}
use Rattle.hex.proofs.Pairs.{prepend, decode_pairs-ok_pair, prepend-cons_byte}
use Rattle.osc_script.specs.declared.digits.TheConstants.{VALUES}
use Rattle.osc_script.specs.declared.fault.ScriptFaultKind.TheVariants as kinds
use Rattle.osc_script.specs.Words.{is_space, words_of}
use Rattle.osc_script.specs.Acts.{decoded, packet_of}
use Rattle.osc_script.proofs.Cutting.{last_word}

-- the test of the first entries of the table, which computes
abbrev tells : ℕ → Option ℕ → Bool
tells value (Some digit) = value == digit && nat_lt value 16
tells value None = value == 255

abbrev all_tell : List ℕ → ℕ → Bool
all_tell table zero = true
all_tell table (suc n) = tells (get_or table n 0) (hex_digit_value n) && all_tell table n

all_tell_at : (table : List ℕ) (n k : ℕ) → all_tell table n ≡ true → k < n → tells (get_or table k 0) (hex_digit_value k) ≡ true
all_tell_at table zero k all below = absurd (omega arith)
all_tell_at table (suc n) k all below =
    let parts = and_parts (tells (get_or table n 0) (hex_digit_value n)) (all_tell table n) all in
    elim (cases_lt k n) [
      | inl lower ↦ all_tell_at table n k parts.1 lower
      | inr last ↦
          let same : k ≡ n = omega arith in
          rw same parts.0
    ]

told : (value : ℕ) (digit : Option ℕ) → tells value digit ≡ true → ((value < 16) ⊎ (value ≡ 255)) × (value < 16 → digit ≡ Some value)
told value (Some digit) is =
    let parts = and_parts (value == digit) (nat_lt value 16) is in
    let same : value ≡ digit = eqb-true value digit parts.0 in
    (inl (ltb-true value 16 parts.1), λ small. ap Some (sym same))
told value None is =
    let none : value ≡ 255 = eqb-true value 255 is in
    (inr none, λ small. absurd (omega (arith, none)))

-- an entry of the table
pub digit_told : (digit : ℕ) → digit < 256 → ((get_or VALUES digit 0 < 16) ⊎ (get_or VALUES digit 0 ≡ 255))
    × (get_or VALUES digit 0 < 16 → hex_digit_value digit ≡ Some (get_or VALUES digit 0))
digit_told digit within = told (get_or VALUES digit 0) (hex_digit_value digit) (all_tell_at VALUES 256 digit refl within)

-- the byte of two digits
pub pair_told : (high low x y place : ℕ) → hex_digit_value high ≡ Some x → hex_digit_value low ≡ Some y → pair_value high low place ≡ Ok (x * 16 + y)
pair_told high low x y place first second =
    let one : value_at high place ≡ Ok x = ap (digit_or_error high place) first in
    let two : value_at low (place + 1) ≡ Ok y = ap (digit_or_error low (place + 1)) second in
    rw (one, two) refl

-- two bytes, and those after them
pub two_and_rest : (bytes : List ℕ) → 2 ≤ length bytes → bytes ≡ get_or bytes 0 0 ∷ get_or bytes 1 0 ∷ take (length bytes - 2) (drop 2 bytes)
two_and_rest [] long = absurd (omega arith)
two_and_rest (first ∷ []) long = absurd (omega arith)
two_and_rest (first ∷ second ∷ rest) long = ap (λ l. first ∷ second ∷ l) (sym (take_all (length (first ∷ second ∷ rest) - 2) rest (omega arith)))

-- one pair more is read
pub pair_read : (text bytes rest others : List ℕ) (high low value : ℕ) → rest ≡ high ∷ low ∷ others
    → pair_value high low (2 * length bytes) ≡ Ok value
    → decode_pairs 0 text ≡ prepend bytes (decode_pairs (2 * length bytes) rest)
    → decode_pairs 0 text ≡ prepend (bytes ++ value ∷ []) (decode_pairs (2 * length (bytes ++ value ∷ [])) others)
pair_read text bytes rest others high low value is pair so_far =
    let next : 2 * length bytes + 2 ≡ 2 * length (bytes ++ value ∷ []) = omega (arith, length-append bytes (value ∷ [])) in
    so_far
    ∙ ap (prepend bytes) (ap (decode_pairs (2 * length bytes)) is ∙ decode_pairs-ok_pair (2 * length bytes) high low value others pair)
    ∙ prepend-cons_byte bytes value (decode_pairs (2 * length bytes + 2) others)
    ∙ ap (λ n. prepend (bytes ++ value ∷ []) (decode_pairs n others)) next

-- all are read
pub pairs_read : (text bytes rest : List ℕ) → length rest ≡ 0 → length text ≡ 2 * length bytes + length rest
    → decode_pairs 0 text ≡ prepend bytes (decode_pairs (2 * length bytes) rest) → decode_of text ≡ Ok bytes
unfolding decode_pairs
pairs_read text bytes [] none size so_far =
    let even : decode_of text ≡ decode_pairs 0 text = grind (arith, nat_tests) in
    even ∙ so_far ∙ ap Ok (append-nil bytes)
pairs_read text bytes (first ∷ rest) none size so_far = absurd (omega arith)

no_space : (digit : ℕ) → is_hex_digit digit ≡ true → is_space digit ≡ false
no_space digit is = grind (arith, nat_tests)

whole : (text : List ℕ) → All (λ byte. is_space byte ≡ false) text → concat (words_of text) ≡ text
whole [] none = refl
whole (byte ∷ text) none = ap concat (last_word (byte ∷ text) none (omega arith)) ∙ append-nil (byte ∷ text)

-- a text of digits is one word, or none
pub digits_alone : (text bytes : List ℕ) → decode_of text ≡ Ok bytes → packet_of (words_of text) ≡ Ok bytes
digits_alone text bytes read =
    let digits = (decode_of-ok text bytes read).1 in
    ap (λ joined. decoded kinds.Hex (decode_of joined)) (whole text (λ k d lt. no_space (slice_index_or text k d) (digits k d lt)))
    ∙ ap (decoded kinds.Hex) read

pub ruleset digits = (digits_alone)
