-- What the units of a packet need that are kept.
use Rattle.std.proofs.Common.{◌≡◌, ℕ, ◌+◌, ◌<◌, ◌≤◌, ◌^◌, List, [], ◌∷◌, length, ap, arith}
use Rattle.osc_packet.specs.Units.{TimedUnit, blocks_of}
use Rattle.osc_model.specs.declared.late.Late.{Late}
use Rattle.osc_model.specs.Step.{kept}
use Rattle.osc_model.proofs.Queues.{kept_few, kept_blocks_few, length_first, blocks_first}

pub places_fit : (late : Late) (clock n : ℕ) (unit : TimedUnit) (rest left all : List TimedUnit) → left ≡ unit ∷ rest
    → n + length (kept late clock left) ≡ length (kept late clock all) → length all ≤ 65504 → n + length (kept late clock (unit ∷ [])) < 2 ^ 32
places_fit late clock n unit rest left all is same few =
    omega (arith, ap (λ (l : List TimedUnit). length (kept late clock l)) is, length_first late clock unit rest, kept_few late clock all)

pub blocks_fit : (late : Late) (clock n : ℕ) (unit : TimedUnit) (rest left all : List TimedUnit) → left ≡ unit ∷ rest
    → n + blocks_of (kept late clock left) ≡ blocks_of (kept late clock all) → blocks_of all < 2 ^ 32 → n + blocks_of (kept late clock (unit ∷ [])) < 2 ^ 32
blocks_fit late clock n unit rest left all is same few =
    omega (arith, ap (λ (l : List TimedUnit). blocks_of (kept late clock l)) is, blocks_first late clock unit rest, kept_blocks_few late clock all)
