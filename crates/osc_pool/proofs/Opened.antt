-- A pool whose blocks are all free.
use Rattle.std.proofs.Common.{◌≡◌, ℕ, zero, suc, ◌+◌, ◌-◌, ◌<◌, ◌≤◌, inl, inr, List, [], ◌∷◌, ◌++◌, length, get_or, replicate, sum_by, refl, sym, ap, ◌∙◌}
use Rattle.std.proofs.Common.{arith}
use Rattle.std.specs.List.{range_with_len}
use Rattle.std.proofs.lemmas.Bool.{cases_eq}
use Rattle.std.proofs.lemmas.List.{length-replicate, get_or-replicate}
use Rattle.std.proofs.lemmas.List.FromFn.{length-range_with_len, get_or-range_with_len}
use Rattle.std.proofs.lemmas.List.Sums.{sum_by-cons}
use Rattle.osc_pool.specs.declared.limits.TheConstants.{MAX_BLOCKS}
use Rattle.osc_pool.specs.Holding.{blocks_for}
use Rattle.osc_pool.specs.Paths.{path, paths_from, texts_from, times, IsSound, IsLaid}
use Rattle.osc_pool.proofs.Counts.{times_head, times_other}

-- one number more of a range
pub range_more : (from n next : ℕ) → next ≡ from + n → range_with_len from n ++ next ∷ [] ≡ range_with_len from (n + 1)
range_more from zero next is = let e : next ≡ from = omega arith in rw e refl
range_more from (suc n) next is = let e : suc n + 1 ≡ suc (n + 1) = omega arith in
    rw e (ap (λ (l : List ℕ). from ∷ l) (range_more (from + 1) n next (omega arith)))

-- blocks of which each is followed by the next number stand once each
pub record StandOnce (blocks : List ℕ) (count first block : ℕ) : Type 0 where
  pub once : times block blocks ≤ 1
  pub below : block < first → times block blocks ≡ 0
  pub above : first + count ≤ block → times block blocks ≡ 0

-- one block more before them
one_more : (blocks : List ℕ) (count first block : ℕ) → StandOnce blocks count (1 + first) block → StandOnce (first ∷ blocks) (suc count) first block
one_more blocks count first block is = elim (cases_eq block first) [
  | inl same ↦
      let none = is.below (omega arith) in
      let here : times block (first ∷ blocks) ≡ 1 + times block blocks = ap (λ (n : ℕ). times block (n ∷ blocks)) (sym same) ∙ times_head block blocks in
      record { once = omega arith; below = λ less. absurd (omega arith); above = λ more. absurd (omega arith) }
  | inr differs ↦
      let other = times_other block first blocks differs in
      record {
        once = omega (arith, is.once);
        below = λ less. omega (arith, is.below (omega arith));
        above = λ more. omega (arith, is.above (omega arith));
      }
]

stand_once : (limit count first block : ℕ) → first + count ≤ limit → StandOnce (path (range_with_len 1 limit) count first) count first block
stand_once limit zero first block within = record { once = omega arith; below = λ _. refl; above = λ _. refl }
stand_once limit (suc count) first block within =
    let next : get_or (range_with_len 1 limit) first 0 ≡ 1 + first = get_or-range_with_len 1 limit first 0 (omega arith) in
    rw next (one_more (path (range_with_len 1 limit) count (1 + first)) count first block (stand_once limit count (1 + first) block (omega arith)))

-- no chain begins anywhere
no_paths : (next : List ℕ) (block n from : ℕ) → sum_by (times block) (paths_from next from (replicate n 0)) ≡ 0
no_paths next block zero from = refl
no_paths next block (suc n) from =
    omega (arith, sum_by-cons (times block) [] (paths_from next (from + 1) (replicate n 0)), no_paths next block n (from + 1))

no_sizes : (n : ℕ) → sum_by blocks_for (replicate n 0) ≡ 0
no_sizes zero = refl
no_sizes (suc n) = omega (arith, sum_by-cons blocks_for 0 (replicate n 0), no_sizes n)

no_texts : (blocks : List (List ℕ)) (next : List ℕ) (n from : ℕ) → texts_from blocks next from (replicate n 0) ≡ replicate n []
no_texts blocks next zero from = refl
no_texts blocks next (suc n) from = ap (λ (l : List (List ℕ)). [] ∷ l) (no_texts blocks next n (from + 1))

pub opened_view : (blocks : List (List ℕ)) (next sizes : List ℕ) (limit : ℕ) → sizes ≡ replicate limit 0 → texts_from blocks next 0 sizes ≡ replicate limit []
opened_view blocks next sizes limit none = ap (texts_from blocks next 0) none ∙ no_texts blocks next limit 0

opened_sound : (block : List ℕ) (limit : ℕ) → length block ≡ 64 → limit ≤ MAX_BLOCKS
    → IsSound (replicate limit block) (range_with_len 1 limit) (replicate limit 0) 0 limit
opened_sound block limit whole few = record {
  linked = length-range_with_len 1 limit ∙ sym (length-replicate limit block);
  sized = length-replicate limit 0 ∙ sym (length-replicate limit block);
  few = omega (arith, length-replicate limit block);
  whole = λ b within. ap length (get_or-replicate limit b block [] (omega (arith, length-replicate limit block))) ∙ whole;
  apart = λ b. (let once = stand_once limit limit 0 b (omega arith) in omega (arith, once.once, no_paths (range_with_len 1 limit) b limit 0));
  inside = λ b above. (let once = stand_once limit limit 0 b (omega arith) in
      omega (arith, once.above (omega (arith, length-replicate limit block)), no_paths (range_with_len 1 limit) b limit 0));
  counted = omega (arith, no_sizes limit, length-replicate limit block);
}

pub opened_laid : (limit capacity : ℕ) → limit ≤ MAX_BLOCKS → limit ≤ capacity → IsLaid [] (range_with_len 1 limit) (replicate limit 0) 0 limit capacity
opened_laid limit capacity few room =
    let long = length-range_with_len 1 limit in
    let all : limit - 0 ≡ limit = omega arith in
    record {
      sound = rw (long, all) (opened_sound (replicate 64 0) limit refl few);
      few = omega arith;
      room = omega (arith, long, room);
      reached = λ b _. no_paths (range_with_len 1 limit) b limit 0;
    }
