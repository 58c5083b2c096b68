-- How many hits stand in bytes.
use Rattle.std.proofs.Common.{◌≡◌, ℕ, ◌/◌, List, [], ◌∷◌, length, refl, arith}
use Rattle.osc_model.specs.Recordings.{hits_in}

-- one in each eight
pub hits_count : (bytes : List ℕ) → length (hits_in bytes) ≡ length bytes / 8
hits_count [] = refl
hits_count (a ∷ []) = refl
hits_count (a ∷ b ∷ []) = refl
hits_count (a ∷ b ∷ c ∷ []) = refl
hits_count (a ∷ b ∷ c ∷ d ∷ []) = refl
hits_count (a ∷ b ∷ c ∷ d ∷ e ∷ []) = refl
hits_count (a ∷ b ∷ c ∷ d ∷ e ∷ f ∷ []) = refl
hits_count (a ∷ b ∷ c ∷ d ∷ e ∷ f ∷ g ∷ []) = refl
hits_count (a ∷ b ∷ c ∷ d ∷ e ∷ f ∷ g ∷ h ∷ bytes) = omega (arith, hits_count bytes)
