-- The places from the first of a set on, and what a star reaches.
use Rattle.std.proofs.Common.{◌≡◌, ℕ, zero, suc, ◌+◌, ◌-◌, ◌*◌, ◌%◌, ◌^◌, ◌<◌, ◌≤◌, Bool, true, false, ◌||◌, ◌&&◌, ◌==◌, nat_le}
use Rattle.std.proofs.Common.{List, [], ◌∷◌, length, refl, arith, sym, ap, ◌∙◌, w64, pow_pos}
use Rattle.std.specs.Int.{bit_at, trailing_zeros}
use Rattle.std.specs.List.{list_any}
use Rattle.std.proofs.lemmas.Nat.Bits.{bit_at_cat_low, bit_at_cat_high, bit_at-zero, bit_at-trailing_zeros}
use Rattle.std.proofs.lemmas.Bool.Decides.{nat_tests}
use Rattle.osc_pattern.specs.Cuts.{rests, any_rest}
use Rattle.osc_pattern.specs.Views.{reached_from}
use Rattle.osc_pattern.proofs.Below.{all_bits}
use Rattle.osc_pattern.proofs.Moves.{low_bit}
use Rattle.osc_pattern.proofs.Reaches.{by_star}

from_begun : (places : ℕ → Bool) (at more : ℕ) → reached_from true places at more ≡ true
from_begun places at zero = refl
from_begun places at (suc more) = from_begun places (at + 1) more

pub from_none : (places : ℕ → Bool) → ((place : ℕ) → places place ≡ false) → (at more : ℕ) → reached_from false places at more ≡ false
from_none places none at zero = none at
from_none places none at (suc more) = ap (λ b. reached_from b places (at + 1) more) (none at) ∙ from_none places none (at + 1) more

pub from_first : (places : ℕ → Bool) (first : ℕ) → places first ≡ true → ((place : ℕ) → place < first → places place ≡ false)
    → (at more : ℕ) → at ≤ first → reached_from false places at more ≡ nat_le first (at + more)
from_first places first is before at zero order = go (at == first) refl where
  go : (t : Bool) → (at == first) ≡ t → places at ≡ nat_le first (at + 0)
  go true e =
      let same : at ≡ first = grind (arith, nat_tests) in
      let within : nat_le first (at + 0) ≡ true = grind (arith, nat_tests) in
      ap places same ∙ is ∙ sym within
  go false e =
      let below : at < first = grind (arith, nat_tests) in
      let apart : nat_le first (at + 0) ≡ false = grind (arith, nat_tests) in
      before at below ∙ sym apart
from_first places first is before at (suc more) order = go (at == first) refl (from_first places first is before (at + 1) more) where
  go : (t : Bool) → (at == first) ≡ t → (at + 1 ≤ first → reached_from false places (at + 1) more ≡ nat_le first (at + 1 + more))
      → reached_from (places at) places (at + 1) more ≡ nat_le first (at + suc more)
  go true e others =
      let same : at ≡ first = grind (arith, nat_tests) in
      let within : nat_le first (at + suc more) ≡ true = grind (arith, nat_tests) in
      ap (λ b. reached_from b places (at + 1) more) (ap places same ∙ is) ∙ from_begun places (at + 1) more ∙ sym within
  go false e others =
      let below : at < first = grind (arith, nat_tests) in
      let size : at + 1 + more ≡ at + suc more = omega arith in
      ap (λ b. reached_from b places (at + 1) more) (before at below) ∙ others (omega arith) ∙ ap (nat_le first) size

shifted : (first place : ℕ) → first < 64 → place < 64 → (bit_at (18446744073709551615 * 2 ^ first % 2 ^ 64) place == 1) ≡ nat_le first place
shifted first place small within = ap (λ bit. bit == 1) (low_bit (18446744073709551615 * 2 ^ first) place within ∙ ap (λ n. bit_at n place) same)
    ∙ go (nat_le first place) refl where
      same : 18446744073709551615 * 2 ^ first ≡ 18446744073709551615 * 2 ^ first + 0
      same = omega arith

      go : (t : Bool) → nat_le first place ≡ t → (bit_at (18446744073709551615 * 2 ^ first + 0) place == 1) ≡ t
      go true e =
          let some : first ≤ place = grind (arith, nat_tests) in
          ap (λ bit. bit == 1) (bit_at_cat_high 18446744073709551615 first 0 place (pow_pos first) some) ∙ all_bits (place - first) (omega arith)
      go false e =
          let none : place < first = grind (arith, nat_tests) in
          ap (λ bit. bit == 1) (bit_at_cat_low 18446744073709551615 first 0 place none ∙ bit_at-zero place)

-- the bits from the lowest on
pub bits-onward : (bits place : ℕ) → 0 < bits → bits < 2 ^ 64 → place < 64
    → (bit_at (18446744073709551615 * 2 ^ trailing_zeros w64 bits % 2 ^ 64) place == 1) ≡ reached_from false (λ other. bit_at bits other == 1) 0 place
bits-onward bits place some small within =
    let lowest = bit_at-trailing_zeros w64 bits some small in
    let from : 0 + place ≡ place = omega arith in
    shifted (trailing_zeros w64 bits) place lowest.0 within
    ∙ sym (ap (nat_le (trailing_zeros w64 bits)) from)
    ∙ sym (from_first (λ other. bit_at bits other == 1) (trailing_zeros w64 bits) (ap (λ bit. bit == 1) lowest.1)
    (λ other below. ap (λ bit. bit == 1) (lowest.2 other below)) 0 place (omega arith))

last_row : (b o t : Bool) → ((b || o) && t) ≡ ((b && (t || false)) || (o && (t || false)))
last_row true true true = refl
last_row true true false = refl
last_row true false true = refl
last_row true false false = refl
last_row false true true = refl
last_row false true false = refl
last_row false false true = refl
last_row false false false = refl

from_here : (test : List ℕ → Bool) (old new : ℕ → Bool) (begun : Bool) (at : ℕ) (name : List ℕ)
    → ((more : ℕ) → more ≤ length name → new (at + more) ≡ reached_from begun old at more)
    → any_rest test new at name ≡ ((begun && list_any test (rests name)) || any_rest (λ rest. list_any test (rests rest)) old at name)
from_here test old new begun at [] h =
    let none : at ≡ at + 0 = omega arith in
    ap (λ t. t && test []) (ap new none ∙ h 0 (omega arith)) ∙ last_row begun (old at) (test [])
from_here test old new begun at (byte ∷ name) h =
    let none : at ≡ at + 0 = omega arith in
    let others : (more : ℕ) → more ≤ length name → new (at + 1 + more) ≡ reached_from (begun || old at) old (at + 1) more =
    λ more within. (let e : at + 1 + more ≡ at + suc more = omega arith in ap new e ∙ h (suc more) (omega arith)) in
    ap (λ t. (t && test (byte ∷ name)) || any_rest test new (at + 1) name) (ap new none ∙ h 0 (omega arith))
    ∙ ap (λ t. ((begun || old at) && test (byte ∷ name)) || t) (from_here test old new (begun || old at) (at + 1) name others)
    ∙ by_star false (test (byte ∷ name)) (list_any test (rests name)) (any_rest (λ rest. list_any test (rests rest)) old (at + 1) name) begun (old at)

-- what a star reaches
pub any_rest-onward : (test : List ℕ → Bool) (old new : ℕ → Bool) (name : List ℕ)
    → ((place : ℕ) → place ≤ length name → new place ≡ reached_from false old 0 place)
    → any_rest test new 0 name ≡ any_rest (λ rest. list_any test (rests rest)) old 0 name
any_rest-onward test old new name h =
    from_here test old new false 0 name (λ more within. (let e : 0 + more ≡ more = omega arith in ap new e ∙ h more within))
