-- The zero bytes from a place on: what stands there is read, and what is read stands there.
use Rattle.std.proofs.Common.{◌≡◌, ◌≢◌, ◌⊎◌, ℕ, suc, ◌+◌, ◌-◌, ◌<◌, ◌≤◌, true, eqb, List, ◌∷◌, ◌++◌, length, take, drop, replicate, position, Option, Some}
use Rattle.std.proofs.Common.{None, Ok, Err, refl, sym, ◌∙◌, ap, inl, inr, arith, append_assoc, length-append, take-append-drop}
use Rattle.std.proofs.lemmas.Bool.{ne_eqb, eqb-false, not-true, not_from_false}
use Rattle.std.proofs.lemmas.List.{take_at, drop_at, drop-drop, length-replicate, length-take-le}
use Rattle.std.proofs.Math.Seq.{take-append-add}
use Rattle.osc_atoms.specs.Faults.{padding}
use Rattle.osc_atoms.specs.Reading.{is_other, padding_read, past_padding}
use Rattle.osc_atoms.proofs.Positions.{no_place, found_behind, found, not_found, zeros_are, are_zeros}

-- what stands before a place and after it
pub before_place : (bytes : List ℕ) (at size : ℕ) (front back : List ℕ) → drop at bytes ≡ front ++ back → length front ≡ size
    → take size (drop at bytes) ≡ front
before_place bytes at size front back parts sized = ap (take size) parts ∙ take_at front back size sized

pub after_place : (bytes : List ℕ) (at size : ℕ) (front back : List ℕ) → drop at bytes ≡ front ++ back → length front ≡ size → drop (at + size) bytes ≡ back
after_place bytes at size front back parts sized = sym (drop-drop size at bytes) ∙ ap (drop size) parts ∙ drop_at front back size sized

pub padding_again : (bytes : List ℕ) (from size : ℕ) (rest : List ℕ) → drop from bytes ≡ replicate size 0 ++ rest
    → padding_read bytes from size ≡ Ok (from + size)
padding_again bytes from size rest parts =
    let zeros : take size (drop from bytes) ≡ replicate size 0 = before_place bytes from size (replicate size 0) rest parts (length-replicate {A = ℕ} size 0) in
    ap (λ (l : List ℕ). past_padding from size (position is_other l)) zeros
    ∙ ap (past_padding from size) (no_place is_other (replicate size 0) (zeros_are size))

pub bad_padding_again : (bytes : List ℕ) (from size zeros byte : ℕ) (rest : List ℕ) → drop from bytes ≡ replicate zeros 0 ++ byte ∷ rest → zeros < size
    → byte ≢ 0 → padding_read bytes from size ≡ Err (padding (from + zeros))
bad_padding_again bytes from size zeros byte rest parts within other =
    let front : List ℕ = replicate zeros 0 in
    let sized : length front ≡ zeros = length-replicate {A = ℕ} zeros 0 in
    let more = size - zeros - 1 in
    let all : size ≡ length front + suc more = omega arith in
    let cut : take size (drop from bytes) ≡ front ++ byte ∷ take more rest =
    ap (take size) parts ∙ ap (λ (n : ℕ). take n (front ++ byte ∷ rest)) all ∙ take-append-add front (byte ∷ rest) (suc more) in
    let here : is_other byte ≡ true = not_from_false (eqb byte 0) (ne_eqb byte 0 other) in
    let place : position is_other (take size (drop from bytes)) ≡ Some zeros =
    ap (position is_other) cut ∙ found_behind is_other front byte (take more rest) (zeros_are zeros) here ∙ ap (λ (n : ℕ). Some n) sized in
    ap (past_padding from size) place

-- the zero bytes that are wanted stand there
pub record Padded (bytes : List ℕ) (from size : ℕ) : Type 0 where
  pub rest : List ℕ
  pub parts : drop from bytes ≡ replicate size 0 ++ rest
  pub read : padding_read bytes from size ≡ Ok (from + size)

-- another byte stands among them
pub record BadlyPadded (bytes : List ℕ) (from size : ℕ) : Type 0 where
  pub zeros : ℕ
  pub byte : ℕ
  pub rest : List ℕ
  pub within : zeros < size
  pub other : byte ≢ 0
  pub parts : drop from bytes ≡ replicate zeros 0 ++ byte ∷ rest
  pub read : padding_read bytes from size ≡ Err (padding (from + zeros))

pub padding_seen : (bytes : List ℕ) (from size : ℕ) → size ≤ length (drop from bytes) → Padded bytes from size ⊎ BadlyPadded bytes from size
padding_seen bytes from size long = go (position is_other (take size (drop from bytes))) refl where
  sized : length (take size (drop from bytes)) ≡ size
  sized = length-take-le size (drop from bytes) long

  go : (o : Option ℕ) → position is_other (take size (drop from bytes)) ≡ o → Padded bytes from size ⊎ BadlyPadded bytes from size
  go None e =
      let zeros : take size (drop from bytes) ≡ replicate size 0 = are_zeros (take size (drop from bytes)) (not_found is_other (take size (drop from bytes)) e)
      ∙ ap (λ (n : ℕ). replicate n 0) sized in
      let parts : drop from bytes ≡ replicate size 0 ++ drop size (drop from bytes) =
      sym (take-append-drop size (drop from bytes)) ∙ ap (λ (l : List ℕ). l ++ drop size (drop from bytes)) zeros in
      inl (record { rest = drop size (drop from bytes); parts = parts; read = padding_again bytes from size (drop size (drop from bytes)) parts })
  go (Some k) e =
      let cut = found is_other (take size (drop from bytes)) k e in
      let zeros : cut.front ≡ replicate k 0 = are_zeros cut.front cut.before ∙ ap (λ (n : ℕ). replicate n 0) cut.size in
      let length_is : size ≡ length cut.front + suc (length cut.back) = sym sized ∙ ap length cut.parts ∙ length-append cut.front (cut.item ∷ cut.back) in
      let other : cut.item ≢ 0 = eqb-false cut.item 0 (not-true (eqb cut.item 0) cut.here) in
      let within : k < size = omega (arith, cut.size) in
      let rest : List ℕ = cut.back ++ drop size (drop from bytes) in
      let parts : drop from bytes ≡ replicate k 0 ++ cut.item ∷ rest =
      sym (take-append-drop size (drop from bytes)) ∙ ap (λ (l : List ℕ). l ++ drop size (drop from bytes)) cut.parts
      ∙ append_assoc cut.front (cut.item ∷ cut.back) (drop size (drop from bytes)) ∙ ap (λ (l : List ℕ). l ++ cut.item ∷ rest) zeros in
      inr (record {
        zeros = k;
        byte = cut.item;
        rest = rest;
        within = within;
        other = other;
        parts = parts;
        read = bad_padding_again bytes from size k cut.item rest parts within other;
      })
