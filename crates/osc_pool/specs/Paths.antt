-- Inside the crate: how chains and the free blocks lie in the blocks of a pool.
use Rattle.osc_pool.specs.declared.limits.TheConstants.{BLOCK_SIZE, MAX_BLOCKS}
use Rattle.std.specs.Prelude.{◌≡◌, ℕ, zero, suc, ◌+◌, ◌-◌, ◌<◌, ◌≤◌, ◌==◌, min, if◌then◌else◌, List}
use Rattle.std.specs.Prelude.{[], ◌∷◌, ◌++◌, length, replicate, take, slice_index_or, slice_set}
use Rattle.std.specs.List.{sum_by}
use Rattle.osc_pool.specs.Holding.{blocks_for}

-- so many blocks from this one on, each by the link of the one before it
abbrev pub path : List ℕ → ℕ → ℕ → List ℕ
path next zero block = []
path next (suc count) block = block ∷ path next count (slice_index_or next block 0)

-- the block after so many
abbrev pub block_after : List ℕ → ℕ → ℕ → ℕ
block_after next zero block = block
block_after next (suc count) block = block_after next count (slice_index_or next block 0)

-- so many bytes, from so many blocks on from this one
abbrev pub text : List (List ℕ) → List ℕ → ℕ → ℕ → ℕ → List ℕ
text blocks next zero block size = []
text blocks next (suc count) block size =
    take (min BLOCK_SIZE size) (slice_index_or blocks block [])
    ++ text blocks next count (slice_index_or next block 0) (size - BLOCK_SIZE)

-- the blocks of each chain, from this block on, where a chain of so many bytes begins in each
abbrev pub paths_from : List ℕ → ℕ → List ℕ → List (List ℕ)
paths_from next block [] = []
paths_from next block (size ∷ sizes) =
    path next (blocks_for size) block ∷ paths_from next (block + 1) sizes

-- the bytes of each chain
abbrev pub texts_from : List (List ℕ) → List ℕ → ℕ → List ℕ → List (List ℕ)
texts_from blocks next block [] = []
texts_from blocks next block (size ∷ sizes) =
    text blocks next (blocks_for size) block size ∷ texts_from blocks next (block + 1) sizes

-- how often a block stands in a list
abbrev pub times : ℕ → List ℕ → ℕ
times block [] = 0
times block (one ∷ others) = (if block == one then 1 else 0) + times block others

-- the blocks of a path are different ones, below the limit
pub record IsPath (next : List ℕ) (count first limit : ℕ) : Type 0 where
  pub once : (block : ℕ) → times block (path next count first) ≤ 1
  pub inside : (block : ℕ) → limit ≤ block → times block (path next count first) ≡ 0

-- how often a block stands among the free ones and in the chains
abbrev pub uses : List ℕ → List ℕ → ℕ → ℕ → ℕ → ℕ
uses next sizes first free block =
    times block (path next free first) + sum_by (times block) (paths_from next 0 sizes)

-- each block has 64 bytes
abbrev pub AreWhole : List (List ℕ) → Type 0
AreWhole blocks =
    (block : ℕ) → block < length blocks → length (slice_index_or blocks block []) ≡ BLOCK_SIZE

-- the bytes of a block that was never written
abbrev pub zeros : List ℕ
zeros = replicate BLOCK_SIZE 0

-- as many blocks as the limit, where those that were never reached have zeros
abbrev pub filled_up : ℕ → List (List ℕ) → List (List ℕ)
filled_up limit blocks = blocks ++ replicate (limit - length blocks) zeros

-- a piece stands at the beginning of a block, and the others stay
pub record IsPut (limit : ℕ) (before after : List (List ℕ)) (block : ℕ)
    (piece : List ℕ) : Type 0 where
  pub filled : List ℕ
  pub is : filled_up limit after ≡ slice_set (filled_up limit before) block filled
  pub taken : take (length piece) filled ≡ piece
  pub long : length filled ≡ BLOCK_SIZE
  pub there : block < length after
  pub more : length before ≤ length after
  pub few : length after ≤ limit

-- blocks are among those that were reached, which are no fewer than before
pub record AreReached (blocks : List ℕ) (before after limit : ℕ) : Type 0 where
  pub within : (block : ℕ) → after ≤ block → times block blocks ≡ 0
  pub more : before ≤ after
  pub few : after ≤ limit

-- bytes are written on a path, and other blocks stay; the block after the path is this one
pub record IsWritten (before after : List (List ℕ)) (next : List ℕ) (first after_it : ℕ)
    (bytes : List ℕ) : Type 0 where
  pub ends : after_it ≡ block_after next (blocks_for (length bytes)) first
  pub written : text after next (blocks_for (length bytes)) first (length bytes) ≡ bytes
  pub others : (block : ℕ) → times block (path next (blocks_for (length bytes)) first) ≡ 0
      → slice_index_or after block [] ≡ slice_index_or before block []
  pub whole : AreWhole after
  pub long : length after ≡ length before

-- each block stands once among the free ones or in a chain, and all of them are counted
pub record IsSound (blocks : List (List ℕ)) (next sizes : List ℕ) (first free : ℕ) : Type 0 where
  pub linked : length next ≡ length blocks
  pub sized : length sizes ≡ length blocks
  pub few : length blocks ≤ MAX_BLOCKS
  pub whole : AreWhole blocks
  pub apart : (block : ℕ) → uses next sizes first free block ≤ 1
  pub inside : (block : ℕ) → length blocks ≤ block → uses next sizes first free block ≡ 0
  pub counted : free + sum_by blocks_for sizes ≡ length blocks

-- the same, where the blocks of chains were reached, and the others have room
pub record IsLaid (blocks : List (List ℕ)) (next sizes : List ℕ)
    (first free capacity : ℕ) : Type 0 where
  pub sound : IsSound (filled_up (length next) blocks) next sizes first free
  pub few : length blocks ≤ length next
  pub room : length next ≤ capacity
  pub reached : (block : ℕ) → length blocks ≤ block
      → sum_by (times block) (paths_from next 0 sizes) ≡ 0
