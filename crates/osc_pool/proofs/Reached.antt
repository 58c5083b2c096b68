-- Blocks that are reached for the first time.
use Rattle.std.proofs.Common.{◌≡◌, ℕ, ◌+◌, ◌-◌, ◌<◌, ◌≤◌, List, [], ◌++◌, length, get_or, set, replicate, take, sym, ap, subst, ◌∙◌, inl, inr, arith}
use Rattle.std.proofs.Common.{length-append}
use Rattle.std.proofs.lemmas.Bool.{cases_lt}
use Rattle.std.proofs.lemmas.List.{length-set, length-replicate, replicate-append-replicate, get_or_append_left, set-append_left, append_assoc}
use Rattle.osc_pool.specs.Holding.{blocks_for}
use Rattle.osc_pool.specs.Paths.{filled_up, path, text, times, zeros, AreWhole, IsPath, IsPut}
use Rattle.osc_pool.proofs.Walks.{text_same}

pub length-filled : (limit : ℕ) (blocks : List (List ℕ)) → length blocks ≤ limit → length (filled_up limit blocks) ≡ limit
length-filled limit blocks few =
    omega (
      arith,
      few,
      length-append blocks (replicate (limit - length blocks) zeros),
      length-replicate (limit - length blocks) zeros,
    )

pub filled_path : (limit : ℕ) (blocks : List (List ℕ)) (next : List ℕ) (count first : ℕ) → length blocks ≤ limit → IsPath next count first limit
    → IsPath next count first (length (filled_up limit blocks))
filled_path limit blocks next count first few is = subst (IsPath next count first) (sym (length-filled limit blocks few)) is

-- a block that was reached is the same
pub filled_same : (limit : ℕ) (blocks : List (List ℕ)) (block : ℕ) → block < length blocks → get_or (filled_up limit blocks) block [] ≡ get_or blocks block []
filled_same limit blocks block within = get_or_append_left blocks (replicate (limit - length blocks) zeros) [] block within

-- blocks that are reached come with the zeros that they had
pub filled_more : (limit count : ℕ) (blocks : List (List ℕ)) → count ≤ limit → length blocks ≤ count
    → filled_up limit (blocks ++ replicate (count - length blocks) zeros) ≡ filled_up limit blocks
filled_more limit count blocks within more =
    let long : length (blocks ++ replicate (count - length blocks) zeros) ≡ count =
    omega (arith, more, length-append blocks (replicate (count - length blocks) zeros), length-replicate (count - length blocks) zeros) in
    let all : count - length blocks + (limit - count) ≡ limit - length blocks = omega (arith, within, more) in
    ap (λ (n : ℕ). (blocks ++ replicate (count - length blocks) zeros) ++ replicate (limit - n) zeros) long
    ∙ append_assoc blocks (replicate (count - length blocks) zeros) (replicate (limit - count) zeros)
    ∙ ap (λ (l : List (List ℕ)). blocks ++ l)
    (replicate-append-replicate (count - length blocks) (limit - count) zeros ∙ ap (λ (n : ℕ). replicate n zeros) all)

-- a block that is written among them
pub filled_set : (limit : ℕ) (blocks : List (List ℕ)) (block : ℕ) (filled : List ℕ) → block < length blocks
    → filled_up limit (set blocks block filled) ≡ set (filled_up limit blocks) block filled
filled_set limit blocks block filled within =
    ap (λ (n : ℕ). set blocks block filled ++ replicate (limit - n) zeros) (length-set blocks block filled)
    ∙ sym (set-append_left blocks (replicate (limit - length blocks) zeros) block filled within)

pub put_is : (limit : ℕ) (before reached : List (List ℕ)) (block : ℕ) (piece filled : List ℕ) → block < length reached
    → filled_up limit reached ≡ filled_up limit before → take (length piece) filled ≡ piece → length filled ≡ 64 → length before ≤ length reached
    → length reached ≤ limit → IsPut limit before (set reached block filled) block piece
put_is limit before reached block piece filled within same taken long more few = record {
  filled = filled;
  is = filled_set limit reached block filled within ∙ ap (λ (l : List (List ℕ)). set l block filled) same;
  taken = taken;
  long = long;
  there = omega (arith, within, length-set reached block filled);
  more = omega (arith, more, length-set reached block filled);
  few = omega (arith, few, length-set reached block filled);
}

-- what is read on blocks that were reached
pub reached_whole : (limit : ℕ) (blocks : List (List ℕ)) → length blocks ≤ limit → AreWhole (filled_up limit blocks) → AreWhole blocks
reached_whole limit blocks few whole block within =
    ap length (sym (filled_same limit blocks block within)) ∙ whole block (omega (arith, within, few, length-filled limit blocks few))

pub reached_text : (limit : ℕ) (blocks : List (List ℕ)) (next : List ℕ) (first size : ℕ) → IsPath next (blocks_for size) first (length blocks)
    → text blocks next (blocks_for size) first size ≡ text (filled_up limit blocks) next (blocks_for size) first size
reached_text limit blocks next first size is =
    text_same (filled_up limit blocks) blocks next (blocks_for size) first size
    (λ b stands. sym (filled_same limit blocks b (below b stands)))
  where
    below : (b : ℕ) → 0 < times b (path next (blocks_for size) first) → b < length blocks
    below b stands = elim (cases_lt b (length blocks)) [
      | inl within ↦ within
      | inr above ↦ absurd (omega (arith, is.inside b above, stands))
    ]
