-- Blocks that follow one another by their links, and the bytes in them.
use Rattle.std.proofs.Common.{◌≡◌, ℕ, zero, suc, ◌+◌, ◌-◌, ◌*◌, ◌<◌, ◌≤◌, min, inl, inr, List, [], ◌∷◌, ◌++◌, length, get_or, set, take, sum_by, refl, sym, ap}
use Rattle.std.proofs.Common.{◌∙◌, arith, length-append, zero-add}
use Rattle.std.proofs.lemmas.Bool.{cases_lt}
use Rattle.std.proofs.lemmas.List.{length-take, get_or-set_other, ext_get_or}
use Rattle.std.proofs.lemmas.List.Sums.{sum_by-cons}
use Rattle.osc_pool.specs.Holding.{blocks_for, used_blocks}
use Rattle.osc_pool.specs.Paths.{path, block_after, text, paths_from, texts_from, times, IsPath}
use Rattle.osc_pool.proofs.Counts.{times_head, times_none}

-- a path is its first part and the blocks after that
pub path-add : (next : List ℕ) (n m block : ℕ) → path next (n + m) block ≡ path next n block ++ path next m (block_after next n block)
path-add next zero m block = rw zero-add refl
path-add next (suc n) m block =
    let more : suc n + m ≡ suc (n + m) = omega arith in
    rw more (ap (λ (l : List ℕ). block ∷ l) (path-add next n m (get_or next block 0)))

pub block_after-add : (next : List ℕ) (n m block : ℕ) → block_after next (n + m) block ≡ block_after next m (block_after next n block)
block_after-add next zero m block = rw zero-add refl
block_after-add next (suc n) m block =
    let more : suc n + m ≡ suc (n + m) = omega arith in
    rw more (block_after-add next n m (get_or next block 0))

-- a link that doesn't lie on a path may change
pub path_kept : (next : List ℕ) (at link n block : ℕ) → times at (path next n block) ≡ 0 → path (set next at link) n block ≡ path next n block
path_kept next at link zero block none = refl
path_kept next at link (suc n) block none =
    let apart = times_none at block (path next n (get_or next block 0)) none in
    let same : get_or (set next at link) block 0 ≡ get_or next block 0 = get_or-set_other next at block link 0 (λ e. apart.0 (sym e)) in
    rw same (ap (λ (l : List ℕ). block ∷ l) (path_kept next at link n (get_or next block 0) apart.1))

pub block_after_kept : (next : List ℕ) (at link n block : ℕ) → times at (path next n block) ≡ 0 → block_after (set next at link) n block ≡ block_after next n block
block_after_kept next at link zero block none = refl
block_after_kept next at link (suc n) block none =
    let apart = times_none at block (path next n (get_or next block 0)) none in
    let same : get_or (set next at link) block 0 ≡ get_or next block 0 = get_or-set_other next at block link 0 (λ e. apart.0 (sym e)) in
    rw same (block_after_kept next at link n (get_or next block 0) apart.1)

pub text_relinked : (blocks : List (List ℕ)) (next : List ℕ) (at link n block size : ℕ) → times at (path next n block) ≡ 0
    → text blocks (set next at link) n block size ≡ text blocks next n block size
text_relinked blocks next at link zero block size none = refl
text_relinked blocks next at link (suc n) block size none =
    let apart = times_none at block (path next n (get_or next block 0)) none in
    let same : get_or (set next at link) block 0 ≡ get_or next block 0 = get_or-set_other next at block link 0 (λ e. apart.0 (sym e)) in
    rw same (ap (λ (l : List ℕ). take (min 64 size) (get_or blocks block []) ++ l)
    (text_relinked blocks next at link n (get_or next block 0) (size - 64) apart.1))

-- the bytes on a path are those of its blocks
pub text_same : (blocks later : List (List ℕ)) (next : List ℕ) (n block size : ℕ)
    → ((b : ℕ) → 0 < times b (path next n block) → get_or later b [] ≡ get_or blocks b []) → text later next n block size ≡ text blocks next n block size
text_same blocks later next zero block size same = refl
text_same blocks later next (suc n) block size same =
    let rest = path next n (get_or next block 0) in
    let here : get_or later block [] ≡ get_or blocks block [] = same block (omega (arith, times_head block rest)) in
    rw (here, text_same blocks later next n (get_or next block 0) (size - 64) (λ b stands. same b (omega arith))) refl

-- as many as are asked for, where so many blocks hold them
pub length-text : (blocks : List (List ℕ)) (next : List ℕ) (n block size : ℕ)
    → ((b : ℕ) → 0 < times b (path next n block) → length (get_or blocks b []) ≡ 64) → size ≤ 64 * n → length (text blocks next n block size) ≡ size
length-text blocks next zero block size whole few = omega arith
length-text blocks next (suc n) block size whole few =
    let rest = path next n (get_or next block 0) in
    let here : length (get_or blocks block []) ≡ 64 = whole block (omega (arith, times_head block rest)) in
    omega (
      arith,
      length-append (take (min 64 size) (get_or blocks block [])) (text blocks next n (get_or next block 0) (size - 64)),
      length-take (min 64 size) (get_or blocks block []),
      length-text blocks next n (get_or next block 0) (size - 64) (λ b stands. whole b (omega arith)) (omega arith),
    )

-- the lists of all chains
pub length-paths : (next : List ℕ) (from : ℕ) (sizes : List ℕ) → length (paths_from next from sizes) ≡ length sizes
length-paths next from [] = refl
length-paths next from (size ∷ sizes) = omega (arith, length-paths next (from + 1) sizes)

pub length-texts : (blocks : List (List ℕ)) (next : List ℕ) (from : ℕ) (sizes : List ℕ) → length (texts_from blocks next from sizes) ≡ length sizes
length-texts blocks next from [] = refl
length-texts blocks next from (size ∷ sizes) = omega (arith, length-texts blocks next (from + 1) sizes)

pub path_at : (next : List ℕ) (from : ℕ) (sizes : List ℕ) (i : ℕ)
    → get_or (paths_from next from sizes) i [] ≡ path next (blocks_for (get_or sizes i 0)) (from + i)
path_at next from [] i = refl
path_at next from (size ∷ sizes) zero = let e : from + 0 ≡ from = omega arith in rw e refl
path_at next from (size ∷ sizes) (suc i) = let e : from + suc i ≡ from + 1 + i = omega arith in rw e (path_at next (from + 1) sizes i)

pub text_at : (blocks : List (List ℕ)) (next : List ℕ) (from : ℕ) (sizes : List ℕ) (i : ℕ)
    → get_or (texts_from blocks next from sizes) i [] ≡ text blocks next (blocks_for (get_or sizes i 0)) (from + i) (get_or sizes i 0)
text_at blocks next from [] i = refl
text_at blocks next from (size ∷ sizes) zero = let e : from + 0 ≡ from = omega arith in rw e refl
text_at blocks next from (size ∷ sizes) (suc i) =
    let e : from + suc i ≡ from + 1 + i = omega arith in rw e (text_at blocks next (from + 1) sizes i)

-- the blocks that are counted by sizes are those of the bytes
pub used-texts : (blocks : List (List ℕ)) (next : List ℕ) (from : ℕ) (sizes : List ℕ)
    → ((i : ℕ) → length (text blocks next (blocks_for (get_or sizes i 0)) (from + i) (get_or sizes i 0)) ≡ get_or sizes i 0)
    → used_blocks (texts_from blocks next from sizes) ≡ sum_by blocks_for sizes
used-texts blocks next from [] long = refl
used-texts blocks next from (size ∷ sizes) long =
    let e : from + 0 ≡ from = omega arith in
    let here : length (text blocks next (blocks_for size) from size) ≡ size = rw e at (long 0) in
    let shifted : (i : ℕ) → length (text blocks next (blocks_for (get_or sizes i 0)) (from + 1 + i) (get_or sizes i 0)) ≡ get_or sizes i 0 =
    λ i. (let e : from + suc i ≡ from + 1 + i = omega arith in rw e at (long (suc i))) in
    omega (
      arith,
      here,
      sum_by-cons blocks_for size sizes,
      sum_by-cons (λ (bytes : List ℕ). blocks_for (length bytes)) (text blocks next (blocks_for size) from size) (texts_from blocks next (from + 1) sizes),
      used-texts blocks next (from + 1) sizes shifted,
    )

-- the next block of a path that isn't at its end lies below the limit
pub path_inside : (next : List ℕ) (count first limit n block : ℕ) → IsPath next count first limit → 0 < n
    → ((b : ℕ) → times b (path next n block) ≤ times b (path next count first)) → block < limit
path_inside next count first limit zero block is some left = absurd (omega arith)
path_inside next count first limit (suc n) block is some left = elim (cases_lt block limit) [
  | inl below ↦ below
  | inr above ↦ absurd (omega (arith, is.inside block above, left block, times_head block (path next n (get_or next block 0))))
]

-- a path that isn't empty begins with its first block
pub times_first : (next : List ℕ) (n first : ℕ) → 0 < n → 0 < times first (path next n first)
times_first next zero first some = absurd (omega arith)
times_first next (suc n) first some = omega (arith, times_head first (path next n (get_or next first 0)))

-- another size at a block changes its chain alone
pub paths_set : (next : List ℕ) (from : ℕ) (sizes : List ℕ) (i size : ℕ)
    → paths_from next from (set sizes i size) ≡ set (paths_from next from sizes) i (path next (blocks_for size) (from + i))
paths_set next from [] i size = refl
paths_set next from (one ∷ sizes) zero size = let e : from + 0 ≡ from = omega arith in rw e refl
paths_set next from (one ∷ sizes) (suc i) size =
    let e : from + suc i ≡ from + 1 + i = omega arith in
    rw e (ap (λ (l : List (List ℕ)). path next (blocks_for one) from ∷ l) (paths_set next (from + 1) sizes i size))

-- the same chains lie on the same paths
pub paths_same : (next later : List ℕ) (sizes : List ℕ)
    → ((i : ℕ) → path later (blocks_for (get_or sizes i 0)) i ≡ path next (blocks_for (get_or sizes i 0)) i)
    → paths_from later 0 sizes ≡ paths_from next 0 sizes
paths_same next later sizes same =
    ext_get_or [] (paths_from later 0 sizes) (paths_from next 0 sizes) (length-paths later 0 sizes ∙ sym (length-paths next 0 sizes))
    (λ i _. path_at later 0 sizes i ∙ rw zero-add (same i) ∙ sym (path_at next 0 sizes i))
