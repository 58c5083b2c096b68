-- Array brackets balance, or not, wherever the tags stand.
use Rattle.std.proofs.Common.{◌≡◌, ℕ, ◌+◌, ◌-◌, ◌==◌, Bool, true, false, cond, List, [], ◌∷◌, is_ok, Ok, Err, Result, ◌<◌, ◌≤◌, suc, zero, length, drop, get_or, refl, sym, ap, ◌∙◌, arith, drop-cons}
use Rattle.std.specs.Bool.{⊤}
use Rattle.osc_atoms.specs.declared.fault.Fault.{Fault}
use Rattle.osc_message.specs.Faults.{brackets}
use Rattle.osc_message.specs.Reading.{brackets_read}

-- the brackets among the tags close so many that are open, and balance
abbrev pub closes_all : ℕ → List ℕ → Bool
closes_all depth [] = depth == 0
closes_all depth (tag ∷ tags) =
    cond (tag == 91) (closes_all (depth + 1) tags)
    (cond (tag == 93) (cond (depth == 0) false (closes_all (depth - 1) tags)) (closes_all depth tags))

pub read_closes : (depth outer : ℕ) (tags : List ℕ) (place : ℕ) → is_ok (brackets_read depth outer tags place) ≡ closes_all depth tags
read_closes depth outer [] place = go (depth == 0) where
  go : (t : Bool) → is_ok (cond {A = Result ⊤ Fault} t (Ok tt) (Err (brackets outer))) ≡ t
  go true = refl
  go false = refl
read_closes depth outer (tag ∷ tags) place =
    go (tag == 91) (tag == 93) (depth == 0) (λ (more out : ℕ). read_closes more out tags (place + 1)) where
      go : (a b c : Bool) → ((more out : ℕ) → is_ok (brackets_read more out tags (place + 1)) ≡ closes_all more tags)
          → is_ok (cond {A = Result ⊤ Fault} a (brackets_read (depth + 1) (cond c place outer) tags (place + 1))
          (cond {A = Result ⊤ Fault} b (cond {A = Result ⊤ Fault} c (Err (brackets place)) (brackets_read (depth - 1) outer tags (place + 1)))
          (brackets_read depth outer tags (place + 1))))
          ≡ cond a (closes_all (depth + 1) tags) (cond b (cond c false (closes_all (depth - 1) tags)) (closes_all depth tags))
      go true b c on = on (depth + 1) (cond c place outer)
      go false true true on = refl
      go false true false on = on (depth - 1) outer
      go false false c on = on depth outer

-- a bracket that closes nothing
pub stray : (tags : List ℕ) (k depth : ℕ) → closes_all depth (drop k tags) ≡ closes_all 0 tags → k < length tags → get_or tags k 0 ≡ 93 → depth ≡ 0
    → false ≡ is_ok (brackets_read 0 0 tags 0)
stray tags k depth so below is none =
    sym
    (read_closes 0 0 tags 0 ∙ sym so ∙ ap (λ (n : ℕ). closes_all n (drop k tags)) none ∙ ap (λ (l : List ℕ). closes_all 0 l) (drop-cons tags k 0 below)
    ∙ ap (λ (b : ℕ). closes_all 0 (b ∷ drop (suc k) tags)) is)

drop_none : (tags : List ℕ) (k : ℕ) → length tags ≤ k → drop k tags ≡ []
drop_none [] zero few = refl
drop_none [] (suc k) few = refl
drop_none (tag ∷ tags) zero few = absurd (omega arith)
drop_none (tag ∷ tags) (suc k) few = drop_none tags k (omega arith)

-- all tags are seen
pub ended : (tags : List ℕ) (k depth : ℕ) → closes_all depth (drop k tags) ≡ closes_all 0 tags → length tags ≤ k
    → (depth == 0) ≡ is_ok (brackets_read 0 0 tags 0)
ended tags k depth so all =
    sym (read_closes 0 0 tags 0 ∙ sym so ∙ ap (λ (l : List ℕ). closes_all depth l) (drop_none tags k all))
