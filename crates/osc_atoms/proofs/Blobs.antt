-- Blobs: what stands at a place is read, and what is read stands there.
use Rattle.std.proofs.Common.{◌≡◌, ◌⊎◌, ℕ, suc, ◌+◌, ◌-◌, ◌%◌, ◌^◌, ◌<◌, ◌≤◌, Bool, true, false, ◌&&◌, ltb, leb, List, ◌∷◌, ◌++◌, length, take, drop, replicate}
use Rattle.std.proofs.Common.{Ok, Err, refl, sym, ◌∙◌, ap, inl, inr, arith, append_assoc, length-append, length-drop, take-append-drop}
use Rattle.std.proofs.lemmas.Bool.{ltb-true, ltb-false, leb-true, leb-false, lt-ltb, le-ltb, le-leb, lt-leb, and_parts, and_from, and_cases, and_left}
use Rattle.std.proofs.lemmas.Bool.{and_right, cond-true, cond-false, cases_Bool}
use Rattle.std.proofs.lemmas.List.{length-replicate, length-take-le}
use Rattle.osc_atoms.specs.declared.fault.Fault.{Fault}
use Rattle.osc_atoms.specs.Atoms.{AreBytes, word, blob, blob_end}
use Rattle.osc_atoms.specs.Faults.{padding, blob_size}
use Rattle.osc_atoms.specs.Reading.{and_then, padding_read, content_read, blob_read}
use Rattle.osc_atoms.specs.Standing.{StartsWithWord, StartsWithBlob, NamesBlobFault}
use Rattle.osc_atoms.proofs.Numbers.{word_again, word_short, word_seen}
use Rattle.osc_atoms.proofs.Outcomes.{Outcome}
use Rattle.osc_atoms.proofs.Paddings.{before_place, after_place, padding_again, bad_padding_again, padding_seen}

length-blob : (content : List ℕ) → length (blob content) ≡ 4 + length content + blob_end (length content)
length-blob content = omega (arith, length-append content (replicate (blob_end (length content)) 0), length-replicate {A = ℕ} (blob_end (length content)) 0)

-- the count is an int32, and so many bytes with their padding are left
abbrev pub is_counted : List ℕ → ℕ → ℕ → Bool
is_counted bytes at count = ltb count (2 ^ 31) && leb (count + blob_end count) (length bytes - (at + 4))

counted : (bytes : List ℕ) (at count : ℕ) (rest : List ℕ) → drop at bytes ≡ word count ++ rest → count < 2 ^ 32
    → blob_read bytes at ≡ content_read bytes at count
counted bytes at count rest parts fits =
    ap (λ r. and_then r (λ c. content_read bytes at c.0)) (word_again bytes at count (record { fits = fits; written = record { rest = rest; parts = parts } }))

left_is : (bytes : List ℕ) (at count : ℕ) (rest : List ℕ) → drop at bytes ≡ word count ++ rest → length bytes - (at + 4) ≡ length rest
left_is bytes at count rest parts =
    let long : length (drop at bytes) ≡ 4 + length rest = ap length parts ∙ omega arith in
    omega (arith, length-drop at bytes)

-- a content behind its count, with room for its padding
content_found : (bytes : List ℕ) (at : ℕ) (content tail : List ℕ) → length content < 2 ^ 31 → drop at bytes ≡ word (length content) ++ (content ++ tail)
    → blob_end (length content) ≤ length tail
    → blob_read bytes at ≡ and_then (padding_read bytes (at + 4 + length content) (blob_end (length content))) (λ next. Ok (content, next))
content_found bytes at content tail fits parts room =
    let count = length content in
    let behind : drop (at + 4) bytes ≡ content ++ tail = after_place bytes at 4 (word count) (content ++ tail) parts refl in
    let inside : is_counted bytes at count ≡ true =
    and_from _ _ (lt-ltb count (2 ^ 31) fits)
    (le-leb (count + blob_end count) (length bytes - (at + 4)) (omega (arith, left_is bytes at count (content ++ tail) parts, length-append content tail)))
    in
    counted bytes at count (content ++ tail) parts (omega arith) ∙ cond-true _ _ _ inside
    ∙ ap (λ (l : List ℕ). and_then (padding_read bytes (at + 4 + count) (blob_end count)) (λ next. Ok (l, next)))
    (before_place bytes (at + 4) count content tail behind refl)

tail_of : (bytes : List ℕ) (at : ℕ) (content tail : List ℕ) → drop at bytes ≡ word (length content) ++ (content ++ tail)
    → drop (at + 4 + length content) bytes ≡ tail
tail_of bytes at content tail parts =
    after_place bytes (at + 4) (length content) content tail (after_place bytes at 4 (word (length content)) (content ++ tail) parts refl) refl

pub blob_again : (bytes : List ℕ) (at : ℕ) (content : List ℕ) → StartsWithBlob bytes at content → blob_read bytes at ≡ Ok (content, at + length (blob content))
blob_again bytes at content stands =
    let size = length content in
    let end = blob_end size in
    let tail : List ℕ = replicate end 0 ++ stands.written.rest in
    let parts : drop at bytes ≡ word size ++ (content ++ tail) =
    stands.written.parts ∙ ap (λ (l : List ℕ). word size ++ l) (append_assoc content (replicate end 0) stands.written.rest) in
    let room : end ≤ length tail = omega (arith, length-append (replicate end 0) stands.written.rest, length-replicate {A = ℕ} end 0) in
    let padded = padding_again bytes (at + 4 + size) end stands.written.rest (tail_of bytes at content tail parts) in
    let next : at + 4 + size + end ≡ at + length (blob content) = omega (arith, length-blob content) in
    content_found bytes at content tail stands.fits parts room ∙ ap (λ r. and_then r (λ next. Ok (content, next))) padded ∙ ap (λ (n : ℕ). Ok (content, n)) next

not_counted : (bytes : List ℕ) (at count : ℕ) (rest : List ℕ) → drop at bytes ≡ word count ++ rest → (2 ^ 31 ≤ count) ⊎ (length rest < count + blob_end count)
    → is_counted bytes at count ≡ false
not_counted bytes at count rest parts (inl negative) = and_left _ _ (le-ltb count (2 ^ 31) negative)
not_counted bytes at count rest parts (inr beyond) =
    and_right _ _ (lt-leb (count + blob_end count) (length bytes - (at + 4)) (omega (arith, left_is bytes at count rest parts)))

pub blob_fault_again : (bytes : List ℕ) (at : ℕ) (fault : Fault) → length (drop at bytes) % 4 ≡ 0 → NamesBlobFault bytes at fault
    → blob_read bytes at ≡ Err fault
blob_fault_again bytes at fault whole (inl names) =
    ap (λ r. and_then r (λ c. content_read bytes at c.0)) (word_short bytes at names.few) ∙ ap (λ (f : Fault). Err f) (sym names.named)
blob_fault_again bytes at fault whole (inr (inl names)) =
    counted bytes at names.count names.rest names.parts names.fits ∙ cond-false _ _ _ (not_counted bytes at names.count names.rest names.parts names.beyond)
    ∙ ap (λ (f : Fault). Err f) (sym names.named)
blob_fault_again bytes at fault whole (inr (inr names)) =
    let content = names.content in
    let size = length content in
    let tail : List ℕ = replicate names.zeros 0 ++ names.byte ∷ names.rest in
    let behind : length (content ++ tail) ≡ size + length tail = length-append content tail in
    let zeros : length tail ≡ names.zeros + suc (length names.rest) =
    length-append (replicate names.zeros 0) (names.byte ∷ names.rest)
    ∙ ap (λ (n : ℕ). n + suc (length names.rest)) (length-replicate {A = ℕ} names.zeros 0) in
    let long : length (drop at bytes) ≡ 4 + length (content ++ tail) = ap length names.parts ∙ omega arith in
    let room : blob_end size ≤ length tail = room_of size (length tail) (omega arith) in
    let bad = bad_padding_again bytes (at + 4 + size) (blob_end size) names.zeros names.byte names.rest
    (tail_of bytes at content tail names.parts) names.within names.other in
    content_found bytes at content tail names.fits names.parts room ∙ ap (λ r. and_then r (λ next. Ok (content, next))) bad
    ∙ ap (λ (f : Fault). Err f) (sym names.named)
  where
    room_of : (size left : ℕ) → (size + left) % 4 ≡ 0 → blob_end size ≤ left
    room_of size left whole = omega arith

beyond_left : (bytes : List ℕ) (at count : ℕ) (rest : List ℕ) → drop at bytes ≡ word count ++ rest
    → (ltb count (2 ^ 31) ≡ false) ⊎ (leb (count + blob_end count) (length bytes - (at + 4)) ≡ false)
    → (2 ^ 31 ≤ count) ⊎ (length rest < count + blob_end count)
beyond_left bytes at count rest parts (inl negative) = inl (ltb-false _ _ negative)
beyond_left bytes at count rest parts (inr past) = inr (omega (arith, leb-false _ _ past, left_is bytes at count rest parts))

-- what is read of a blob at a place
abbrev pub BlobOutcome : List ℕ → ℕ → Type 0
BlobOutcome bytes at = Outcome (StartsWithBlob bytes at) (λ content. at + length (blob content)) (NamesBlobFault bytes at) (blob_read bytes at)

content_seen : (bytes : List ℕ) (at : ℕ) (content tail : List ℕ) → length (drop at bytes) % 4 ≡ 0 → length content < 2 ^ 31
    → drop at bytes ≡ word (length content) ++ (content ++ tail) → blob_end (length content) ≤ length tail → BlobOutcome bytes at
content_seen bytes at content tail whole fits parts room =
    let size = length content in
    let behind : drop (at + 4 + size) bytes ≡ tail = tail_of bytes at content tail parts in
    let front : List ℕ = word size in
    elim (padding_seen bytes (at + 4 + size) (blob_end size) (omega (arith, ap length behind))) [
      | inl padded ↦
          let written : drop at bytes ≡ blob content ++ padded.rest = parts ∙ ap (λ (l : List ℕ). word size ++ (content ++ l)) (sym behind ∙ padded.parts)
          ∙ ap (λ (l : List ℕ). word size ++ l) (sym (append_assoc content (replicate (blob_end size) 0) padded.rest)) in
          let stands : StartsWithBlob bytes at content = record { fits = fits; written = record { rest = padded.rest; parts = written } } in
          inl (record { value = content; stands = stands; is = blob_again bytes at content stands })
      | inr bad ↦
          let names : NamesBlobFault bytes at (padding (at + 4 + size + bad.zeros)) =
          inr (inr (record {
            content = content;
            zeros = bad.zeros;
            byte = bad.byte;
            rest = bad.rest;
            fits = fits;
            within = bad.within;
            other = bad.other;
            parts = parts ∙ ap (λ (l : List ℕ). word size ++ (content ++ l)) (sym behind ∙ bad.parts);
            named = refl;
          })) in
          inr (record { fault = padding (at + 4 + size + bad.zeros); names = names; is = blob_fault_again bytes at _ whole names })
    ]

counted_seen : (bytes : List ℕ) (at count : ℕ) → length (drop at bytes) % 4 ≡ 0 → StartsWithWord bytes at count
    → (is_counted bytes at count ≡ true) ⊎ (is_counted bytes at count ≡ false) → BlobOutcome bytes at
counted_seen bytes at count whole stands (inr isnt) =
    let rest = stands.written.rest in
    let names : NamesBlobFault bytes at (blob_size at) =
    inr (inl (record {
      count = count;
      rest = rest;
      fits = stands.fits;
      parts = stands.written.parts;
      beyond = beyond_left bytes at count rest stands.written.parts (and_cases _ _ isnt);
      named = refl;
    })) in
    inr (record { fault = blob_size at; names = names; is = blob_fault_again bytes at _ whole names })
counted_seen bytes at count whole stands (inl is) =
    let rest = stands.written.rest in
    let tests = and_parts _ _ is in
    let below : count < 2 ^ 31 = ltb-true _ _ tests.0 in
    let room : count + blob_end count ≤ length rest = omega (arith, leb-true _ _ tests.1, left_is bytes at count rest stands.written.parts) in
    let content : List ℕ = take count rest in
    let size : length content ≡ count = length-take-le count rest (omega arith) in
    let parts : drop at bytes ≡ word (length content) ++ (content ++ drop count rest) =
    stands.written.parts ∙ ap (λ (l : List ℕ). word count ++ l) (sym (take-append-drop count rest))
    ∙ ap (λ (n : ℕ). word n ++ (content ++ drop count rest)) (sym size) in
    content_seen bytes at content (drop count rest) whole (omega arith) parts (rw size (omega (arith, length-drop count rest)))

pub blob_seen : (bytes : List ℕ) (at : ℕ) → AreBytes bytes → length (drop at bytes) % 4 ≡ 0 → BlobOutcome bytes at
blob_seen bytes at small whole = elim (word_seen bytes at small) [
  | inr refused ↦
      let names : NamesBlobFault bytes at refused.fault = inl refused.names in
      inr (record { fault = refused.fault; names = names; is = blob_fault_again bytes at refused.fault whole names })
  | inl given ↦ counted_seen bytes at given.value whole given.stands (cases_Bool (is_counted bytes at given.value))
]
