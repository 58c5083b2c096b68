-- What a pool holds, and which chains are live in it.
use Rattle.osc_pool.specs.declared.limits.TheConstants.{BLOCK_SIZE}
use Rattle.std.specs.Prelude.{◌≡◌, ◌≢◌, ℕ, ◌+◌, ◌-◌, ◌/◌, ◌<◌, ◌==◌, if◌then◌else◌, List, [], length}
use Rattle.std.specs.Prelude.{slice_index_or, slice_set}
use Rattle.std.specs.List.{sum_by}
use Rattle.osc_pool.specs.declared.chain.Chain.{Chain}

-- how many blocks hold so many bytes
abbrev pub blocks_for : ℕ → ℕ
blocks_for size = (size + (BLOCK_SIZE - 1)) / BLOCK_SIZE

-- how many blocks the chains of a pool take
abbrev pub used_blocks : List (List ℕ) → ℕ
used_blocks held = sum_by (λ bytes. blocks_for (length bytes)) held

-- what a chain holds: no bytes, or what the pool holds from the chain's first block on
abbrev pub held_by : Chain → List (List ℕ) → List ℕ
held_by chain held = if chain.len == 0 then [] else slice_index_or held chain.first []

-- the chain is one of those that the pool holds
abbrev pub IsLive : Chain → List (List ℕ) → Type 0
IsLive chain held = length (held_by chain held) ≡ chain.len

-- what the pool holds once the chain holds these bytes
abbrev pub with_chain : Chain → List ℕ → List (List ℕ) → List (List ℕ)
with_chain chain bytes held = if chain.len == 0 then held else slice_set held chain.first bytes

-- the chains are two: one of them takes no block, or they begin at different blocks
abbrev pub AreApart : Chain → Chain → Type 0
AreApart one other = 0 < one.len → 0 < other.len → one.first ≢ other.first

-- the chain is apart from all that were live
abbrev pub IsNew : Chain → List (List ℕ) → Type 0
IsNew chain held = (other : Chain) → IsLive other held → AreApart chain other

-- each chain that was live holds what it held
abbrev pub KeepsLive : List (List ℕ) → List (List ℕ) → Type 0
KeepsLive old new = (other : Chain) → IsLive other old → held_by other new ≡ held_by other old

-- each chain that is apart from this one holds what it held
abbrev pub KeepsOthers : Chain → List (List ℕ) → List (List ℕ) → Type 0
KeepsOthers chain old new =
    (other : Chain) → AreApart other chain → held_by other new ≡ held_by other old
