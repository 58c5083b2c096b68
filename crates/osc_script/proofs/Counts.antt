-- How many lines add a method.
use Rattle.std.proofs.Common.{◌≡◌, ℕ, ◌+◌, Bool, true, false, cond, List, [], ◌∷◌, length, filter, refl, arith}
use Rattle.osc_script.specs.declared.line.Line.{Line}
use Rattle.osc_script.specs.Adds.{is_add, count_adds}

-- as many as there are that add one
pub counted : (lines : List Line) → length (filter (λ line. is_add line.act) lines) ≡ count_adds lines
counted [] = refl
counted (line ∷ lines) = go (is_add line.act) (counted lines) where
  go : (t : Bool) → length (filter (λ other. is_add other.act) lines) ≡ count_adds lines
      → length (cond t (line ∷ filter (λ other. is_add other.act) lines) (filter (λ other. is_add other.act) lines)) ≡ cond {A = ℕ} t 1 0 + count_adds lines
  go true rest = omega (arith, rest)
  go false rest = omega (arith, rest)
