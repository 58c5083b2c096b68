-- How a program ends, and what it has written then.
use Rattle.osc_ends.specs.declared.status.TheConstants.{BANK_SHORT, DONE, EDGE_FAILED, NO_MEMORY}
use Rattle.osc_ends.specs.declared.status.TheConstants.{RECORDING_FULL, REFUSED, SINK_FAILED}
use Rattle.osc_ends.specs.declared.status.TheConstants.{SOURCE_FAILED, USAGE}
use Rattle.std.specs.Prelude.{◌≡◌, ◌⊎◌, ℕ, ◌+◌, List, drop}
use Rattle.osc_ends.specs.Sinks.{SinkChange, GainsAll, GainsPart, GainsUnless}

-- nothing was played: what came in is refused, or there are too few boxes
abbrev pub IsUnplayed : ℕ → Type 0
IsUnplayed status = (status ≡ REFUSED) ⊎ (status ≡ USAGE) ⊎ (status ≡ SOURCE_FAILED)
    ⊎ (status ≡ BANK_SHORT)

-- a status with which all was written
abbrev pub IsWritten : ℕ → Type 0
IsWritten status = (status ≡ DONE) ⊎ (status ≡ RECORDING_FULL) ⊎ (status ≡ EDGE_FAILED)

-- what a whole input leaves: nothing, or what stands after the first byte that is too many
abbrev pub left_behind : ℕ → List ℕ → List ℕ
left_behind most input = drop (most + 1) input

-- a text that was made before is written, or a front of it; the status is the decided one where all
-- of it is
pub record EndsText (decided status : ℕ) (text : List ℕ) (out : SinkChange) : Type 0 where
  pub known : (status ≡ decided) ⊎ (status ≡ NO_MEMORY) ⊎ (status ≡ SINK_FAILED)
  pub done : status ≡ decided → GainsAll out text
  pub cut_short : status ≡ SINK_FAILED → GainsPart out text

-- a last line of a status that is decided
pub record EndsLine (decided status : ℕ) (text : List ℕ) (out : SinkChange) : Type 0 where
  pub known : (status ≡ decided) ⊎ (status ≡ NO_MEMORY)
  pub written : status ≡ decided → GainsUnless out text
