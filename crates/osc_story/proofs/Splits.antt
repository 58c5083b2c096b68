-- The hits in bytes.
use Rattle.std.proofs.Common.{◌≡◌, ℕ, ◌≤◌, List, [], ◌∷◌, length, take, drop, Option, Some, None, refl, sym, ap, ◌∙◌, arith, length-drop}
use Rattle.std.specs.Int.{w32, from_be_bytes}
use Rattle.osc_model.specs.Recordings.{hits_in}
use Rattle.osc_story.specs.Hits.{SplitsHit, SplitsWords}

-- eight bytes are a hit
next : (bytes : List ℕ) → 8 ≤ length bytes
    → hits_in bytes ≡ record { index = from_be_bytes w32 (take 4 bytes); id = from_be_bytes w32 (take 4 (drop 4 bytes)) } ∷ hits_in (drop 8 bytes)
next [] long = absurd (omega (arith, long))
next (a ∷ []) long = absurd (omega (arith, long))
next (a ∷ b ∷ []) long = absurd (omega (arith, long))
next (a ∷ b ∷ c ∷ []) long = absurd (omega (arith, long))
next (a ∷ b ∷ c ∷ d ∷ []) long = absurd (omega (arith, long))
next (a ∷ b ∷ c ∷ d ∷ e ∷ []) long = absurd (omega (arith, long))
next (a ∷ b ∷ c ∷ d ∷ e ∷ f ∷ []) long = absurd (omega (arith, long))
next (a ∷ b ∷ c ∷ d ∷ e ∷ f ∷ g ∷ []) long = absurd (omega (arith, long))
next (a ∷ b ∷ c ∷ d ∷ e ∷ f ∷ g ∷ h ∷ rest) long = refl

-- fewer are none
few : (bytes : List ℕ) → length bytes ≤ 7 → hits_in bytes ≡ []
few [] below = refl
few (a ∷ []) below = refl
few (a ∷ b ∷ []) below = refl
few (a ∷ b ∷ c ∷ []) below = refl
few (a ∷ b ∷ c ∷ d ∷ []) below = refl
few (a ∷ b ∷ c ∷ d ∷ e ∷ []) below = refl
few (a ∷ b ∷ c ∷ d ∷ e ∷ f ∷ []) below = refl
few (a ∷ b ∷ c ∷ d ∷ e ∷ f ∷ g ∷ []) below = refl
few (a ∷ b ∷ c ∷ d ∷ e ∷ f ∷ g ∷ h ∷ rest) below = absurd (omega (arith, below))

pub hit_split : (bytes : List ℕ) (split : Option (ℕ × ℕ × List ℕ)) → SplitsWords bytes split → SplitsHit bytes split
hit_split bytes None below = few bytes below
hit_split bytes (Some split) (long, first, second, left) = (
  next bytes long ∙ (λ i. record { index = sym first i; id = sym second i } ∷ hits_in (sym left i)),
  omega (arith, ap length left, length-drop 8 bytes, long),
)

pub ruleset splits = (hit_split)
