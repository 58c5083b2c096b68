-- Inside the crate: the first of the hits that stand in bytes.
use Rattle.std.specs.Prelude.{◌≡◌, ℕ, ◌<◌, ◌≤◌, List, [], ◌∷◌, length, take, drop, Option, Some}
use Rattle.std.specs.Prelude.{None}
use Rattle.std.specs.Int.{w32, from_be_bytes}
use Rattle.osc_model.specs.Recordings.{hits_in}

-- it is split off: its message's index, its method's id, and the bytes of those after it
abbrev pub SplitsHit : List ℕ → Option (ℕ × ℕ × List ℕ) → Type 0
SplitsHit bytes None = hits_in bytes ≡ []
SplitsHit bytes (Some split) =
    (hits_in bytes ≡ record { index = split.0; id = split.1 } ∷ hits_in split.2)
    × (length split.2 < length bytes)

-- two words are split off, where there are so many bytes
abbrev pub SplitsWords : List ℕ → Option (ℕ × ℕ × List ℕ) → Type 0
SplitsWords bytes None = length bytes ≤ 7
SplitsWords bytes (Some split) = (8 ≤ length bytes)
    × (split.0 ≡ from_be_bytes w32 (take 4 bytes))
    × (split.1 ≡ from_be_bytes w32 (take 4 (drop 4 bytes)))
    × (split.2 ≡ drop 8 bytes)
