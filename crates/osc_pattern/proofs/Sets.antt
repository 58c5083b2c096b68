-- Lists of bytes in brackets, a range at a time.
use Rattle.std.proofs.Common.{◌≡◌, ℕ, ◌<◌, Bool, true, false, ◌||◌, ◌==◌, Option, Some, None, List, [], ◌∷◌, length, refl, arith}
use Rattle.std.specs.Prelude.{if◌then◌else◌}
use Rattle.std.proofs.lemmas.Bool.Decides.{nat_tests}
use Rattle.osc_pattern.specs.Items.{stands_for, is_between, begins_range}
use Rattle.osc_pattern.specs.Reading.{first_range}

-- the range from a byte to itself
alone : (a byte : ℕ) → (byte == a) ≡ is_between a a byte
alone a byte = grind (arith, nat_tests)

-- a list stands for the bytes of its first range, and for those of the rest
abbrev pub GoesOn : List ℕ → ℕ → Option ((ℕ × ℕ) × List ℕ) → Type 0
GoesOn xs byte None = stands_for xs byte ≡ false
GoesOn xs byte (Some (ends, rest)) = (stands_for xs byte ≡ (is_between ends.0 ends.1 byte || stands_for rest byte)) × (length rest < length xs)

or_false : (a b c : Bool) → a ≡ b → (a || c) ≡ (b || c)
or_false a b c e = rw e refl

pub first_range-goes_on : (xs : List ℕ) (byte : ℕ) → GoesOn xs byte (first_range xs)
first_range-goes_on [] byte = refl
first_range-goes_on (x ∷ []) byte = (rw (← alone x byte) (grind (arith, nat_tests)), omega arith)
first_range-goes_on (x ∷ y ∷ []) byte = (or_false _ _ (byte == y) (alone x byte), omega arith)
first_range-goes_on (x ∷ y ∷ z ∷ xs) byte = go (begins_range x y) refl where
  go : (t : Bool) → begins_range x y ≡ t → GoesOn (x ∷ y ∷ z ∷ xs) byte (if t then Some ((x, z), xs) else Some ((x, x), y ∷ z ∷ xs))
  go true e = (rw e refl, omega arith)
  go false e = (rw (e, alone x byte) refl, omega arith)
