-- Steps up and down a heap.
use Rattle.std.proofs.Common.{◌≡◌, ℕ, suc, ◌+◌, ◌-◌, ◌*◌, ◌^◌, ◌<◌, ◌≤◌, sym, ap, subst, ◌∙◌, arith}
use Rattle.std.proofs.Math.Nat.{pow-suc, mul_assoc, mul_comm, mul-le-mul_right, le_trans}
use Rattle.std.proofs.Math.Pow.{pow_mono}
use lib.Pow.{pow-add}
use Rattle.std.proofs.lemmas.Nat.{mul-le}
use Rattle.osc_queue.specs.Views.{above}

-- a step up halves the place
halves : (place k : ℕ) → 0 < place → (above place + 1) * 2 ^ suc k ≤ (place + 1) * 2 ^ k
halves place k some =
    let half : 2 * (above place + 1) ≤ place + 1 = omega arith in
    let same : (above place + 1) * 2 ^ suc k ≡ (2 * (above place + 1)) * 2 ^ k =
    ap (λ (n : ℕ). (above place + 1) * n) (pow-suc 2 k ∙ mul_comm (2 ^ k) 2) ∙ sym (mul_assoc (above place + 1) 2 (2 ^ k))
    ∙ ap (λ (n : ℕ). n * 2 ^ k) (mul_comm (above place + 1) 2) in
    subst (λ (n : ℕ). n ≤ (place + 1) * 2 ^ k) (sym same) (mul-le-mul_right (2 ^ k) half)

pub rises_by : (place start steps most : ℕ) → 0 < place → start ≤ steps → (place + 1) * 2 ^ (steps - start) ≤ most
    → (above place + 1) * 2 ^ (steps + 1 - start) ≤ most
rises_by place start steps most some counted bounded =
    let next : steps + 1 - start ≡ suc (steps - start) = omega arith in
    subst (λ (n : ℕ). (above place + 1) * 2 ^ n ≤ most) (sym next) (le_trans (halves place (steps - start) some) bounded)

-- the last step, at a place that isn't the first
pub rises_last : (place start steps most : ℕ) → 0 < place → start ≤ steps → (place + 1) * 2 ^ (steps - start) ≤ most → 2 ^ (steps + 1 - start) ≤ most
rises_last place start steps most some counted bounded =
    let next : steps + 1 - start ≡ suc (steps - start) = omega arith in
    let two : 2 ≤ place + 1 = omega arith in
    let more : 2 * 2 ^ (steps - start) ≤ (place + 1) * 2 ^ (steps - start) = mul-le-mul_right (2 ^ (steps - start)) two in
    subst (λ (n : ℕ). n ≤ most) (sym (ap (λ (n : ℕ). 2 ^ n) next ∙ pow-suc 2 (steps - start) ∙ mul_comm (2 ^ (steps - start)) 2)) (le_trans more bounded)

-- a place that is at least twice as far down takes one step more
pub falls_by : (place next start before steps : ℕ) → 2 * place < next → start ≤ before → before ≤ steps → steps ≤ before + 1
    → 2 ^ (before - start) ≤ place + 1 → 2 ^ (steps - start) ≤ next + 1
falls_by place next start before steps lower counted on few bounded =
    let up : steps - start ≤ suc (before - start) = omega arith in
    let two : 2 ^ suc (before - start) ≡ 2 * 2 ^ (before - start) = pow-suc 2 (before - start) ∙ mul_comm (2 ^ (before - start)) 2 in
    let most : 2 ^ suc (before - start) ≤ 2 * (place + 1) =
    subst (λ (n : ℕ). n ≤ 2 * (place + 1)) (sym two) (mul-le 2 (2 ^ (before - start)) 2 (place + 1) (omega arith) bounded) in
    le_trans (pow_mono up) (le_trans most (omega arith))

-- steps down to a place and up from it
pub both_ways : (place start between end most : ℕ) → place ≤ most → start ≤ between → between ≤ end
    → 2 ^ (between - start) ≤ place + 1 → 2 ^ (end - between) ≤ place + 1 → 2 ^ (end - start) ≤ (most + 1) * (most + 1)
both_ways place start between end most within down up fallen risen =
    let parts : end - start ≡ (between - start) + (end - between) = omega arith in
    let product : 2 ^ (end - start) ≡ 2 ^ (between - start) * 2 ^ (end - between) =
    ap (λ (n : ℕ). 2 ^ n) parts ∙ pow-add 2 (between - start) (end - between) in
    subst (λ (n : ℕ). n ≤ (most + 1) * (most + 1)) (sym product)
    (mul-le (2 ^ (between - start)) (2 ^ (end - between)) (most + 1) (most + 1) (le_trans fallen (omega arith)) (le_trans risen (omega arith)))
