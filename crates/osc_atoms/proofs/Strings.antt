-- Strings: what stands at a place is read, and what is read stands there.
use Rattle.std.proofs.Common.{◌≡◌, ◌≢◌, ℕ, zero, suc, ◌+◌, ◌-◌, ◌%◌, ◌<◌, ◌≤◌, true, List, ◌∷◌, ◌++◌, length, drop, replicate, position, Option, Some, None, Ok}
use Rattle.std.proofs.Common.{Err, refl, sym, ◌∙◌, ap, inl, inr, arith, append_assoc, length-append}
use Rattle.std.proofs.lemmas.Bool.{eqb-true}
use Rattle.std.proofs.lemmas.List.{length-replicate}
use Rattle.osc_atoms.specs.declared.fault.Fault.{Fault}
use Rattle.osc_atoms.specs.Atoms.{string, string_end, has_no_zero}
use Rattle.osc_atoms.specs.Faults.{unterminated, padding}
use Rattle.osc_atoms.specs.Reading.{and_then, is_zero, padding_read, text_read, string_read}
use Rattle.osc_atoms.specs.Standing.{StartsWithString, NamesStringFault}
use Rattle.osc_atoms.proofs.Positions.{no_place, found_behind, found, not_found}
use Rattle.osc_atoms.proofs.Outcomes.{Outcome}
use Rattle.osc_atoms.proofs.Paddings.{before_place, after_place, padding_again, bad_padding_again, padding_seen}

end_is : (n : ℕ) → string_end n ≡ suc (3 - n % 4)
end_is n = omega arith

pub length-string : (text : List ℕ) → length (string text) ≡ length text + string_end (length text)
length-string text = length-append text _ ∙ ap (λ (n : ℕ). length text + n) (length-replicate {A = ℕ} (string_end (length text)) 0)

-- a text and a zero byte after it, whatever comes then
text_found : (bytes : List ℕ) (at : ℕ) (text more : List ℕ) → has_no_zero text ≡ true → drop at bytes ≡ text ++ 0 ∷ more
    → string_read bytes at ≡ and_then (padding_read bytes (at + length text) (string_end (length text))) (λ next. Ok (text, next))
text_found bytes at text more no_zero parts =
    let place : position is_zero (drop at bytes) ≡ Some (length text) = ap (position is_zero) parts ∙ found_behind is_zero text 0 more no_zero refl in
    ap (text_read bytes at) place ∙ ap (λ (l : List ℕ). and_then (padding_read bytes (at + length text) (string_end (length text))) (λ next. Ok (l, next)))
    (before_place bytes at (length text) text (0 ∷ more) parts refl)

pub string_again : (bytes : List ℕ) (at : ℕ) (text : List ℕ) → StartsWithString bytes at text → string_read bytes at ≡ Ok (text, at + length (string text))
string_again bytes at text stands =
    let size = length text in
    let end = string_end size in
    let rest = stands.written.rest in
    let parts : drop at bytes ≡ text ++ (replicate end 0 ++ rest) = stands.written.parts ∙ append_assoc text (replicate end 0) rest in
    let first : replicate end 0 ++ rest ≡ 0 ∷ (replicate (3 - size % 4) 0 ++ rest) = ap (λ (n : ℕ). replicate n 0 ++ rest) (end_is size) in
    let padded : padding_read bytes (at + size) end ≡ Ok (at + size + end) =
    padding_again bytes (at + size) end rest (after_place bytes at size text _ parts refl) in
    let next : at + size + end ≡ at + length (string text) = omega (arith, length-string text) in
    text_found bytes at text _ stands.no_zero (parts ∙ ap (λ (l : List ℕ). text ++ l) first) ∙ ap (λ r. and_then r (λ next. Ok (text, next))) padded
    ∙ ap (λ (n : ℕ). Ok (text, n)) next

bad_padding : (bytes : List ℕ) (at : ℕ) (text : List ℕ) (zeros byte : ℕ) (rest : List ℕ) → has_no_zero text ≡ true → 0 < zeros
    → zeros < string_end (length text) → byte ≢ 0 → drop at bytes ≡ text ++ (replicate zeros 0 ++ byte ∷ rest)
    → string_read bytes at ≡ Err (padding (at + length text + zeros))
bad_padding bytes at text zero byte rest no_zero ended within other parts = absurd (omega arith)
bad_padding bytes at text (suc n) byte rest no_zero ended within other parts =
    text_found bytes at text _ no_zero parts
    ∙ ap (λ r. and_then r (λ next. Ok (text, next)))
    (bad_padding_again bytes (at + length text) (string_end (length text)) (suc n) byte rest
    (after_place bytes at (length text) text _ parts refl) within other)

pub string_fault_again : (bytes : List ℕ) (at : ℕ) (fault : Fault) → NamesStringFault bytes at fault → string_read bytes at ≡ Err fault
string_fault_again bytes at fault (inl names) =
    ap (text_read bytes at) (no_place is_zero (drop at bytes) names.no_zero) ∙ ap (λ (f : Fault). Err f) (sym names.named)
string_fault_again bytes at fault (inr names) =
    bad_padding bytes at names.text names.zeros names.byte names.rest names.no_zero names.ended names.within names.other names.parts
    ∙ ap (λ (f : Fault). Err f) (sym names.named)

-- the first of the zero bytes before another byte is a zero byte
ended_by : (zeros byte : ℕ) (back rest : List ℕ) (item : ℕ) → item ≡ 0 → item ∷ back ≡ replicate zeros 0 ++ byte ∷ rest → byte ≢ 0 → 0 < zeros
ended_by zero byte back rest item is e other = absurd (other (sym (heads e) ∙ is)) where
  heads : item ∷ back ≡ byte ∷ rest → item ≡ byte
  heads e = cc
ended_by (suc n) byte back rest item is e other = omega arith

pub string_seen : (bytes : List ℕ) (at : ℕ) → length (drop at bytes) % 4 ≡ 0
    → Outcome (StartsWithString bytes at) (λ text. at + length (string text)) (NamesStringFault bytes at) (string_read bytes at)
string_seen bytes at whole = go (position is_zero (drop at bytes)) refl where
  go : (o : Option ℕ) → position is_zero (drop at bytes) ≡ o
      → Outcome (StartsWithString bytes at) (λ text. at + length (string text)) (NamesStringFault bytes at) (string_read bytes at)
  go None e = inr
      (record { fault = unterminated at; names = inl (record { no_zero = not_found is_zero (drop at bytes) e; named = refl }); is = ap (text_read bytes at) e })
  go (Some k) e =
      let cut = found is_zero (drop at bytes) k e in
      let text = cut.front in
      let size = length text in
      let tail : drop (at + size) bytes ≡ cut.item ∷ cut.back = after_place bytes at size text _ cut.parts refl in
      let long : length (drop at bytes) ≡ size + suc (length cut.back) = ap length cut.parts ∙ length-append text (cut.item ∷ cut.back) in
      let left : length (drop (at + size) bytes) ≡ suc (length cut.back) = ap length tail in
      let fits : string_end size ≤ length (drop (at + size) bytes) = omega arith in
      elim (padding_seen bytes (at + size) (string_end size) fits) [
        | inl padded ↦
            let parts : drop at bytes ≡ string text ++ padded.rest = cut.parts ∙ ap (λ (l : List ℕ). text ++ l) (sym tail ∙ padded.parts)
            ∙ sym (append_assoc text (replicate (string_end size) 0) padded.rest) in
            let stands : StartsWithString bytes at text = record { no_zero = cut.before; written = record { rest = padded.rest; parts = parts } } in
            inl (record { value = text; stands = stands; is = string_again bytes at text stands })
        | inr bad ↦
            let parts : drop at bytes ≡ text ++ (replicate bad.zeros 0 ++ bad.byte ∷ bad.rest) =
            cut.parts ∙ ap (λ (l : List ℕ). text ++ l) (sym tail ∙ bad.parts) in
            let ended : 0 < bad.zeros = ended_by bad.zeros bad.byte cut.back bad.rest cut.item (eqb-true cut.item 0 cut.here)
            (sym tail ∙ bad.parts) bad.other in
            let names : NamesStringFault bytes at (padding (at + size + bad.zeros)) =
            inr (record {
              text = text;
              zeros = bad.zeros;
              byte = bad.byte;
              rest = bad.rest;
              no_zero = cut.before;
              ended = ended;
              within = bad.within;
              other = bad.other;
              parts = parts;
              named = refl;
            }) in
            inr (record { fault = padding (at + size + bad.zeros); names = names; is = string_fault_again bytes at (padding (at + size + bad.zeros)) names })
      ]
