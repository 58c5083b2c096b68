-- How often a block stands in lists.
use Rattle.std.proofs.Common.{◌≡◌, ◌≢◌, ℕ, zero, suc, ◌+◌, ◌<◌, ◌≤◌, true, false, Bool, cond, eqb, List, [], ◌∷◌, ◌++◌, length, get_or, set, sum_by, refl, sym}
use Rattle.std.proofs.Common.{ap, ◌∙◌, arith}
use Rattle.std.proofs.lemmas.Bool.{eq-eqb, ne_eqb}
use Rattle.std.proofs.lemmas.List.{get_or-set_other}
use Rattle.std.proofs.lemmas.List.Sums.{sum_by-cons, sum_by-set}
use Rattle.osc_pool.specs.Paths.{times}

pub times-append : (block : ℕ) (xs ys : List ℕ) → times block (xs ++ ys) ≡ times block xs + times block ys
times-append block [] ys = omega arith
times-append block (x ∷ xs) ys = omega (arith, times-append block xs ys)

-- the head of a list stands in it
pub times_head : (block : ℕ) (others : List ℕ) → times block (block ∷ others) ≡ 1 + times block others
times_head block others = ap (λ (b : Bool). cond b 1 0 + times block others) (eq-eqb block block refl)

-- a list is no more than what comes after its head to another block
pub times_other : (block one : ℕ) (others : List ℕ) → (block ≡ one → ⊥) → times block (one ∷ others) ≡ times block others
times_other block one others differs = ap (λ (b : Bool). cond b 1 0 + times block others) (ne_eqb block one differs) ∙ omega arith

-- a block that doesn't stand in a list is neither its head nor after it
pub times_none : (block one : ℕ) (others : List ℕ) → times block (one ∷ others) ≡ 0 → (block ≡ one → ⊥) × (times block others ≡ 0)
times_none block one others none = go (eqb block one) refl where
  go : (same : Bool) → eqb block one ≡ same → (block ≡ one → ⊥) × (times block others ≡ 0)
  go true is = let none' : cond true 1 0 + times block others ≡ 0 = ap (λ (b : Bool). cond b 1 0 + times block others) (sym is) ∙ none in absurd (omega arith)
  go false is =
      let none' : cond false 1 0 + times block others ≡ 0 = ap (λ (b : Bool). cond b 1 0 + times block others) (sym is) ∙ none in
      ((λ same. absurd (cc (is, eq-eqb block one same))), omega arith)

-- what stands in one of the lists stands in all of them together
pub times_part : (block : ℕ) (lists : List (List ℕ)) (i : ℕ) → times block (get_or lists i []) ≤ sum_by (times block) lists
times_part block [] i = omega arith
times_part block (list ∷ lists) zero = omega (arith, sum_by-cons (times block) list lists)
times_part block (list ∷ lists) (suc i) = omega (arith, sum_by-cons (times block) list lists, times_part block lists i)

-- and so does what stands in two of them
pub times_parts : (block : ℕ) (lists : List (List ℕ)) (i j : ℕ) → i < length lists → j ≢ i
    → times block (get_or lists i []) + times block (get_or lists j []) ≤ sum_by (times block) lists
times_parts block lists i j within apart =
    let other : times block (get_or (set lists i []) j []) ≡ times block (get_or lists j []) = ap (times block) (get_or-set_other lists i j [] [] apart) in
    omega (arith, sum_by-set (times block) lists i [] [] within, times_part block (set lists i []) j)
