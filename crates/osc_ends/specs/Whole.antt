-- Inside the crate: the results of reading a source to its end, and of writing bytes to a sink.
use Rattle.std.specs.Prelude.{◌≡◌, ℕ, ◌+◌, ◌<◌, ◌≤◌, List, [], length, take, drop, Option, Some}
use Rattle.std.specs.Prelude.{IfSome}
use Rattle.osc_edge.specs.Faults.{Rose}
use Rattle.osc_ends.specs.declared.whole.Input.{Input}
use Rattle.osc_ends.specs.declared.whole.Input.TheVariants.{Whole, TooLong, Failed, NoMemory}
use Rattle.osc_ends.specs.declared.whole.Written.{Written}
use Rattle.osc_ends.specs.declared.whole.Written.TheVariants.{Wrote, Refused, Short}
use Rattle.osc_ends.specs.declared.whole.Piece.{Piece}
use Rattle.osc_ends.specs.declared.whole.Piece.TheVariants.{More, End, Failed as PieceFailed}
use Rattle.osc_ends.specs.declared.whole.Piece.TheVariants.{NoMemory as PieceNoMemory}
use Rattle.osc_ends.specs.Ends.{left_behind}
use Rattle.osc_ends.specs.Sinks.{SinkChange, GainsAll, GainsPart}

-- What was read, if what was left is reported: all of it, or up to the first byte past the limit, where
-- more was left.
abbrev pub HasRead : Input → ℕ → Option (List ℕ) → Option (List ℕ) → ℕ → ℕ → Type 0
HasRead (Whole bytes) most left after faults later =
    IfSome left (λ all. (bytes.items ≡ all) × (after ≡ Some [])) × (length bytes.items ≤ most)
    × (later ≡ faults)
HasRead TooLong most left after faults later =
    IfSome left (λ all. (most < length all) × (after ≡ Some (left_behind most all)))
    × (later ≡ faults)
HasRead Failed most left after faults later = Rose faults later
HasRead NoMemory most left after faults later = Unit {0}

-- what was read so far, of what was left
abbrev pub ReadSoFar : Option (List ℕ) → Option (List ℕ) → List ℕ → Type 0
ReadSoFar left now bytes =
    IfSome left (λ all. (now ≡ Some (drop (length bytes) all)) × (take (length bytes) all ≡ bytes)
    × (length bytes ≤ length all))

-- one more read, after the bytes that were read so far, of which there may be one more than the
-- limit
abbrev pub HasReadPiece : Piece → ℕ → Option (List ℕ) → Option (List ℕ) → ℕ → ℕ → List ℕ → List ℕ
    → Type 0
HasReadPiece More most left after faults later old new =
    (length old < length new) × (length new ≤ most + 1) × (later ≡ faults)
    × ((start : Option (List ℕ)) → ReadSoFar start left old → ReadSoFar start after new)
HasReadPiece End most left after faults later old new =
    (new ≡ old) × (later ≡ faults)
    × ((start : Option (List ℕ)) → ReadSoFar start left old
    → IfSome start (λ all. (old ≡ all) × (after ≡ Some [])))
HasReadPiece PieceFailed most left after faults later old new = Rose faults later
HasReadPiece PieceNoMemory most left after faults later old new = Unit {0}

-- the result of writing bytes to a sink
abbrev pub HasWritten : Written → SinkChange → List ℕ → Type 0
HasWritten Wrote out bytes = GainsAll out bytes
HasWritten Refused out bytes = GainsPart out bytes
HasWritten Short out bytes = Unit {0}
