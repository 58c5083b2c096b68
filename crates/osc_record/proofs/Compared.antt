-- Bytes that are compared, four at a time, with what they may begin with.
use Rattle.std.proofs.Common.{◌≡◌, ℕ, ◌+◌, ◌≤◌, Bool, true, false, ◌==◌, List, ◌++◌, length, take, drop, refl, sym, ap, ◌∙◌, arith, length-drop}
use Rattle.std.proofs.Common.{eqb-true, eq-eqb}
use Rattle.std.specs.Prelude.{◌↔◌, IsTrue}
use Rattle.std.specs.Int.{w32, from_be_bytes}
use Rattle.std.specs.List.{starts_with}
use Rattle.std.proofs.lemmas.Bool.Decides.{Decides-eqb}
use Rattle.std.proofs.lemmas.List.{take-append-le, drop-append-le, take-append-drop, length-take-le}
use Rattle.std.proofs.lemmas.Nat.{be_bytes_4}
use Rattle.std.proofs.lemmas.Slice.Eq.{starts_is}
use Rattle.std.proofs.Math.Seq.{take-add, take-length}
use Rattle.osc_atoms.specs.Atoms.{AreBytes, word}
use Rattle.osc_atoms.proofs.AllBytes.{front_bytes, rest_bytes}

-- four bytes are those that their number is written as
four_is : (bytes : List ℕ) (at number : ℕ) → AreBytes bytes → at + 4 ≤ length bytes → number ≡ from_be_bytes w32 (take 4 (drop at bytes))
    → word number ≡ take 4 (drop at bytes)
four_is bytes at number small inside is =
    be_bytes_4 (take 4 (drop at bytes)) number (length-take-le 4 (drop at bytes) (omega (arith, length-drop at bytes)))
    (front_bytes 4 (drop at bytes) (rest_bytes at bytes small)) is

-- so they are the same where their numbers are
pub four_same : (bytes front : List ℕ) (at one other : ℕ) → AreBytes bytes → AreBytes front → at + 4 ≤ length bytes → at + 4 ≤ length front
    → one ≡ from_be_bytes w32 (take 4 (drop at bytes)) → other ≡ from_be_bytes w32 (take 4 (drop at front))
    → IsTrue (one == other) ↔ (take 4 (drop at bytes) ≡ take 4 (drop at front))
four_same bytes front at one other small small_front inside inside_front one_is other_is = (
  λ t. sym (four_is bytes at one small inside one_is) ∙ ap word (eqb-true one other t) ∙ four_is front at other small_front inside_front other_is,
  λ same. eq-eqb one other (one_is ∙ ap (from_be_bytes w32) same ∙ sym other_is),
)

-- four bytes that differ
pub four_differs : (bytes front : List ℕ) (at : ℕ) → at + 4 ≤ length front → (take 4 (drop at bytes) ≡ take 4 (drop at front) → ⊥)
    → false ≡ starts_with ◌==◌ bytes front
four_differs bytes front at inside differ = go (starts_with ◌==◌ bytes front) refl where
  go : (t : Bool) → starts_with ◌==◌ bytes front ≡ t → false ≡ starts_with ◌==◌ bytes front
  go false is = sym is
  go true is =
      let rest : List ℕ = drop (length front) bytes in
      let parts : bytes ≡ front ++ rest = (starts_is Decides-eqb bytes front (starts_with ◌==◌ bytes front) refl).0 is in
      absurd (differ (ap (λ (l : List ℕ). take 4 (drop at l)) parts ∙ ap (take 4) (drop-append-le at front rest (omega arith))
      ∙ take-append-le 4 (drop at front) rest (omega (arith, length-drop at front))))

-- four more that are the same
pub four_more : (bytes front : List ℕ) (at : ℕ) → take 4 (drop at bytes) ≡ take 4 (drop at front) → take at bytes ≡ take at front
    → take (at + 4) bytes ≡ take (at + 4) front
four_more bytes front at same before = take-add at 4 bytes ∙ (λ i. before i ++ same i) ∙ sym (take-add at 4 front)

-- all that are the same
pub all_same : (bytes front : List ℕ) (at : ℕ) → at ≡ length front → take at bytes ≡ take at front → true ≡ starts_with ◌==◌ bytes front
all_same bytes front at all same =
    let front_is : take (length front) bytes ≡ front = ap (λ (n : ℕ). take n bytes) (sym all) ∙ same ∙ ap (λ (n : ℕ). take n front) all ∙ take-length front in
    let parts : bytes ≡ front ++ drop (length front) bytes =
    sym (take-append-drop (length front) bytes) ∙ ap (λ (l : List ℕ). l ++ drop (length front) bytes) front_is in
    sym ((starts_is Decides-eqb bytes front (starts_with ◌==◌ bytes front) refl).1 (drop (length front) bytes) parts)
