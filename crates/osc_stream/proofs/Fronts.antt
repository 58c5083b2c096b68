-- What stands at the front of bytes, and what stands there when more come.
use Rattle.std.proofs.Common.{◌≡◌, ℕ, ◌+◌, ◌-◌, ◌≤◌, ◌<◌, Bool, true, false, cond, ltb, List, ◌++◌, length, refl, ap}
use Rattle.std.proofs.Common.{arith, length-append}
use Rattle.std.proofs.lemmas.Bool.{ltb-true, ltb-false, le-ltb}
use Rattle.std.proofs.lemmas.List.{take-append-le}
use Rattle.std.specs.Int.{w32, from_be_bytes}
use Rattle.osc_stream.specs.declared.front.Front.{Front}
use Rattle.osc_stream.specs.declared.front.Front.TheVariants.{Short, Whole, Bad}
use Rattle.osc_stream.specs.Frames.{is_length, first_word, front}

-- the front of so many bytes that begin with a word, where that is known to be a length or not
abbrev pub found_at : Bool → ℕ → ℕ → Front
found_at lawful size word = cond (ltb size 4) Short (cond lawful (cond (ltb size (4 + word)) Short (Whole word)) (Bad word))

abbrev pub wanted_at : Bool → ℕ → ℕ → ℕ
wanted_at lawful size word = cond (ltb size 4) (4 - size) (cond lawful (4 + word - size) 0)

-- a whole front is told from its tests
whole_by : (short lawful less : Bool) (word size : ℕ) → cond short Short (cond lawful (cond less Short (Whole word)) (Bad word)) ≡ Whole size
    → (short ≡ false) × (lawful ≡ true) × (less ≡ false) × (word ≡ size)
whole_by true lawful less word size e = absurd cc
whole_by false false less word size e = absurd cc
whole_by false true true word size e = absurd cc
whole_by false true false word size e = (refl, refl, refl, cc)

bad_by : (short lawful less : Bool) (word size : ℕ) → cond short Short (cond lawful (cond less Short (Whole word)) (Bad word)) ≡ Bad size
    → (short ≡ false) × (lawful ≡ false) × (word ≡ size)
bad_by true lawful less word size e = absurd cc
bad_by false false less word size e = (refl, refl, cc)
bad_by false true true word size e = absurd cc
bad_by false true false word size e = absurd cc

short_by : (short lawful less : Bool) (word : ℕ) → cond short Short (cond lawful (cond less Short (Whole word)) (Bad word)) ≡ Short
    → short ≡ false → (lawful ≡ true) × (less ≡ true)
short_by true lawful less word e s = absurd cc
short_by false false less word e s = absurd cc
short_by false true true word e s = (refl, refl)
short_by false true false word e s = absurd cc

pub whole_parts : (bytes : List ℕ) (size : ℕ) → front bytes ≡ Whole size
    → (4 ≤ length bytes) × (is_length (first_word bytes) ≡ true) × (4 + first_word bytes ≤ length bytes) × (first_word bytes ≡ size)
whole_parts bytes size e =
    let p = whole_by (ltb (length bytes) 4) (is_length (first_word bytes)) (ltb (length bytes) (4 + first_word bytes)) (first_word bytes) size e in
    (ltb-false (length bytes) 4 p.0, p.1, ltb-false (length bytes) (4 + first_word bytes) p.2, p.3)

pub bad_parts : (bytes : List ℕ) (size : ℕ) → front bytes ≡ Bad size
    → (4 ≤ length bytes) × (is_length (first_word bytes) ≡ false) × (first_word bytes ≡ size)
bad_parts bytes size e =
    let p = bad_by (ltb (length bytes) 4) (is_length (first_word bytes)) (ltb (length bytes) (4 + first_word bytes)) (first_word bytes) size e in
    (ltb-false (length bytes) 4 p.0, p.1, p.2)

pub short_parts : (bytes : List ℕ) → front bytes ≡ Short → 4 ≤ length bytes
    → (is_length (first_word bytes) ≡ true) × (length bytes < 4 + first_word bytes)
short_parts bytes e long =
    let p = short_by (ltb (length bytes) 4) (is_length (first_word bytes)) (ltb (length bytes) (4 + first_word bytes)) (first_word bytes) e
    (le-ltb (length bytes) 4 long) in
    (p.0, ltb-true (length bytes) (4 + first_word bytes) p.1)

-- the word stays the same when more come
pub word_stays : (bytes more : List ℕ) → 4 ≤ length bytes → first_word (bytes ++ more) ≡ first_word bytes
word_stays bytes more long = ap (from_be_bytes w32) (take-append-le 4 bytes more long)

pub whole_stays : (bytes more : List ℕ) (size : ℕ) → front bytes ≡ Whole size → front (bytes ++ more) ≡ Whole size
whole_stays bytes more size e =
    let p = whole_parts bytes size e in
    let same = word_stays bytes more p.0 in
    rw (
      same,
      le-ltb (length (bytes ++ more)) 4 (omega (arith, length-append bytes more, p.0)),
      p.1,
      le-ltb (length (bytes ++ more)) (4 + first_word bytes) (omega (arith, length-append bytes more, p.2)),
      p.3,
    ) refl

pub bad_stays : (bytes more : List ℕ) (size : ℕ) → front bytes ≡ Bad size → front (bytes ++ more) ≡ Bad size
bad_stays bytes more size e =
    let p = bad_parts bytes size e in
    let same = word_stays bytes more p.0 in
    rw (same, le-ltb (length (bytes ++ more)) 4 (omega (arith, length-append bytes more, p.0)), p.1, p.2) refl
