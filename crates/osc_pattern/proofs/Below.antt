-- Lists of bytes read a range at a time, and a word whose bits are all set.
use Rattle.std.proofs.Common.{◌≡◌, ℕ, ◌-◌, ◌<◌, ◌≤◌, Bool, true, false, ◌||◌, ◌==◌, not, List, [], ◌∷◌, length, take, drop, refl, arith, sym, ap, ◌∙◌, w64}
use Rattle.std.specs.Int.{bit_at}
use Rattle.std.proofs.Math.ListN.{get_or}
use Rattle.std.proofs.lemmas.List.{take_rest}
use Rattle.std.proofs.lemmas.Nat.Bits.{bit_at_not, bit_at-zero}
use Rattle.std.proofs.lemmas.Bool.Decides.{nat_tests}
use Rattle.osc_pattern.specs.Items.{stands_for, is_in_set}

pub one_range : (between old others : Bool) → ((between || old) || others) ≡ (old || (between || others))
one_range true true others = refl
one_range true false others = refl
one_range false true others = refl
one_range false false others = refl

-- a list with a first `!`
pub in_others : (list : List ℕ) (byte : ℕ) → 1 ≤ length list → get_or list 0 0 ≡ 33
    → is_in_set list byte ≡ not (stands_for (take (length list - 1) (drop 1 list)) byte)
in_others [] byte some e = absurd (omega arith)
in_others (first ∷ rest) byte some e =
    let is : (first == 33) ≡ true = grind (arith, nat_tests, e) in
    rw is (ap (λ xs. not (stands_for xs byte)) (sym (take_rest (first ∷ rest) 1)))

-- a word whose bits are all set
pub all_bits : (place : ℕ) → place < 64 → (bit_at 18446744073709551615 place == 1) ≡ true
all_bits place within =
    ap (λ bit. bit == 1) (bit_at_not w64 0 place (omega arith) within) ∙ ap (λ bit. 1 - bit == 1) (bit_at-zero place)
