-- Parts of numbers that are all bytes.
use Rattle.std.proofs.Common.{ℕ, zero, suc, List, [], ◌∷◌, take, drop, lit<}
use Rattle.osc_atoms.specs.Atoms.{AreBytes}

pub front_bytes : (n : ℕ) (bytes : List ℕ) → AreBytes bytes → AreBytes (take n bytes)
front_bytes zero bytes all i = lit< tt
front_bytes (suc n) [] all i = all i
front_bytes (suc n) (b ∷ bytes) all zero = all 0
front_bytes (suc n) (b ∷ bytes) all (suc i) = front_bytes n bytes (λ k. all (suc k)) i

pub rest_bytes : (n : ℕ) (bytes : List ℕ) → AreBytes bytes → AreBytes (drop n bytes)
rest_bytes zero bytes all = all
rest_bytes (suc n) [] all = all
rest_bytes (suc n) (b ∷ bytes) all = rest_bytes n bytes (λ k. all (suc k))
