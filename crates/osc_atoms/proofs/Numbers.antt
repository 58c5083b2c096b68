-- Words and tags: what stands at a place is read, and what is read stands there.
use Rattle.std.proofs.Common.{◌≡◌, ℕ, ◌+◌, ◌<◌, ◌≤◌, true, leb, List, ◌++◌, length, take, drop, Ok, Err, refl, sym, ◌∙◌, ap, inl, inr, arith, length-drop}
use Rattle.std.proofs.Common.{take-append-drop}
use Rattle.std.specs.Int.{w32, w64, from_be_bytes}
use Rattle.std.proofs.lemmas.Bool.{le-leb, lt-leb, cond-true, cond-false, cases_lt}
use Rattle.std.proofs.lemmas.List.{length-take-le}
use Rattle.std.proofs.lemmas.Nat.{be_bytes_4, be_bytes_8, from_be_bytes-to_be_bytes_4, from_be_bytes-to_be_bytes_8}
use Rattle.osc_atoms.specs.declared.fault.Fault.{Fault}
use Rattle.osc_atoms.specs.Atoms.{AreBytes, word, tag}
use Rattle.osc_atoms.specs.Faults.{short}
use Rattle.osc_atoms.specs.Reading.{word_read, tag_read}
use Rattle.osc_atoms.specs.Standing.{StartsWithWord, StartsWithTag, NamesShort}
use Rattle.osc_atoms.proofs.Outcomes.{Outcome}
use Rattle.osc_atoms.proofs.AllBytes.{front_bytes, rest_bytes}

pub word_stands : (bytes : List ℕ) (at number : ℕ) → AreBytes bytes → at + 4 ≤ length bytes → number ≡ from_be_bytes w32 (take 4 (drop at bytes))
    → StartsWithWord bytes at number
word_stands bytes at number small inside is =
    let four = take 4 (drop at bytes) in
    let size : length four ≡ 4 = length-take-le 4 (drop at bytes) (omega (arith, length-drop at bytes)) in
    let each : AreBytes four = front_bytes 4 (drop at bytes) (rest_bytes at bytes small) in
    let written : word number ≡ four = be_bytes_4 four number size each is in
    record {
      fits = omega (arith, is, each 0, each 1, each 2, each 3);
      written = record {
        rest = drop 4 (drop at bytes);
        parts = sym (take-append-drop 4 (drop at bytes)) ∙ ap (λ (l : List ℕ). l ++ drop 4 (drop at bytes)) (sym written);
      };
    }

pub tag_stands : (bytes : List ℕ) (at number : ℕ) → AreBytes bytes → at + 8 ≤ length bytes → number ≡ from_be_bytes w64 (take 8 (drop at bytes))
    → StartsWithTag bytes at number
tag_stands bytes at number small inside is =
    let eight = take 8 (drop at bytes) in
    let size : length eight ≡ 8 = length-take-le 8 (drop at bytes) (omega (arith, length-drop at bytes)) in
    let each : AreBytes eight = front_bytes 8 (drop at bytes) (rest_bytes at bytes small) in
    let written : tag number ≡ eight = be_bytes_8 eight number size each is in
    record {
      fits = omega (arith, is, each 0, each 1, each 2, each 3, each 4, each 5, each 6, each 7);
      written = record {
        rest = drop 8 (drop at bytes);
        parts = sym (take-append-drop 8 (drop at bytes)) ∙ ap (λ (l : List ℕ). l ++ drop 8 (drop at bytes)) (sym written);
      };
    }

pub word_again : (bytes : List ℕ) (at number : ℕ) → StartsWithWord bytes at number → word_read bytes at ≡ Ok (number, at + 4)
word_again bytes at number stands =
    let rest = stands.written.rest in
    let long : length (drop at bytes) ≡ 4 + length rest = ap length stands.written.parts ∙ omega arith in
    let inside : leb (at + 4) (length bytes) ≡ true = le-leb (at + 4) (length bytes) (omega (arith, length-drop at bytes)) in
    let front : take 4 (drop at bytes) ≡ word number = ap (take 4) stands.written.parts in
    cond-true _ _ _ inside ∙ ap (λ (l : List ℕ). Ok (from_be_bytes w32 l, at + 4)) front
    ∙ ap (λ (n : ℕ). Ok (n, at + 4)) (from_be_bytes-to_be_bytes_4 number stands.fits)

pub tag_again : (bytes : List ℕ) (at number : ℕ) → StartsWithTag bytes at number → tag_read bytes at ≡ Ok (number, at + 8)
tag_again bytes at number stands =
    let rest = stands.written.rest in
    let long : length (drop at bytes) ≡ 8 + length rest = ap length stands.written.parts ∙ omega arith in
    let inside : leb (at + 8) (length bytes) ≡ true = le-leb (at + 8) (length bytes) (omega (arith, length-drop at bytes)) in
    let front : take 8 (drop at bytes) ≡ tag number = ap (take 8) stands.written.parts in
    cond-true _ _ _ inside ∙ ap (λ (l : List ℕ). Ok (from_be_bytes w64 l, at + 8)) front
    ∙ ap (λ (n : ℕ). Ok (n, at + 8)) (from_be_bytes-to_be_bytes_8 number stands.fits)

pub word_short : (bytes : List ℕ) (at : ℕ) → length (drop at bytes) < 4 → word_read bytes at ≡ Err (short at)
word_short bytes at few = cond-false _ _ _ (lt-leb (at + 4) (length bytes) (omega (arith, length-drop at bytes)))

pub word_seen : (bytes : List ℕ) (at : ℕ) → AreBytes bytes → Outcome (StartsWithWord bytes at) (λ number. at + 4) (NamesShort 4 bytes at) (word_read bytes at)
word_seen bytes at small = elim (cases_lt (length (drop at bytes)) 4) [
  | inl few ↦ inr (record { fault = short at; names = record { few = few; named = refl }; is = word_short bytes at few })
  | inr enough ↦
      let stands = word_stands bytes at (from_be_bytes w32 (take 4 (drop at bytes))) small (omega (arith, length-drop at bytes)) refl in
      inl (record { value = from_be_bytes w32 (take 4 (drop at bytes)); stands = stands; is = word_again bytes at _ stands })
]

pub tag_short : (bytes : List ℕ) (at : ℕ) → length (drop at bytes) < 8 → tag_read bytes at ≡ Err (short at)
tag_short bytes at few = cond-false _ _ _ (lt-leb (at + 8) (length bytes) (omega (arith, length-drop at bytes)))

pub tag_seen : (bytes : List ℕ) (at : ℕ) → AreBytes bytes → Outcome (StartsWithTag bytes at) (λ number. at + 8) (NamesShort 8 bytes at) (tag_read bytes at)
tag_seen bytes at small = elim (cases_lt (length (drop at bytes)) 8) [
  | inl few ↦ inr (record { fault = short at; names = record { few = few; named = refl }; is = tag_short bytes at few })
  | inr enough ↦
      let stands = tag_stands bytes at (from_be_bytes w64 (take 8 (drop at bytes))) small (omega (arith, length-drop at bytes)) refl in
      inl (record { value = from_be_bytes w64 (take 8 (drop at bytes)); stands = stands; is = tag_again bytes at _ stands })
]

pub word_fault_again : (bytes : List ℕ) (at : ℕ) (fault : Fault) → NamesShort 4 bytes at fault → word_read bytes at ≡ Err fault
word_fault_again bytes at fault names = word_short bytes at names.few ∙ ap (λ (f : Fault). Err f) (sym names.named)

pub tag_fault_again : (bytes : List ℕ) (at : ℕ) (fault : Fault) → NamesShort 8 bytes at fault → tag_read bytes at ≡ Err fault
tag_fault_again bytes at fault names = tag_short bytes at names.few ∙ ap (λ (f : Fault). Err f) (sym names.named)
