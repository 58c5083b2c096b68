-- What becomes of an input that is read to its end.
use Rattle.std.specs.Prelude.{◌≡◌, ◌≢◌, ◌⊎◌, ℕ, ◌<◌, List, length, Option, Some, IfSome, IsErrAnd}
use Rattle.std.specs.Prelude.{Result, Ok, Err}
use Rattle.osc_edge.specs.Faults.{Rose}
use Rattle.osc_model.specs.Limits.{max_recording}
use Rattle.osc_script.specs.declared.mode.Mode.{Mode}
use Rattle.osc_script.specs.Scripts.{script_of}
use Rattle.osc_score.specs.Reading.{score_of}
use Rattle.osc_ends.specs.declared.status.TheConstants.{DONE, NO_MEMORY, REFUSED, SOURCE_FAILED}
use Rattle.osc_ends.specs.Ends.{left_behind}
use Rattle.osc_ends.specs.Printing.{malformed_text, refusal_text, score_fault_text}
use Rattle.osc_ends.specs.Sinks.{SinkChange, GainsUnless}
-- The ghost members of a source as one record: a clause under `S: Source` writes it `S.Source`.
pub use Rattle.osc_edge.specs.declared.source.Source.{Ghosts as SourceOf}

-- what holds of the bytes that an input has left, or of some where it doesn't report them
abbrev pub OfInput : Option (List ℕ) → (List ℕ → Type 0) → Type 0
OfInput left P = (bytes : List ℕ) × IfSome left (λ all. bytes ≡ all) × P bytes

-- the status of reading: done, or that with which the program ends
abbrev pub read_status : {X : Type 0} → Result X ℕ → ℕ
read_status (Ok read) = DONE
read_status (Err status) = status

-- By the status: the source failed (4), and its count of faults rose; or it didn't, and it was read
-- to its end, or to the first byte that is too many. Out of memory (3) promises nothing.
pub record ReadsInput {S : Type 0} (source_of : SourceOf S) (most status : ℕ) (before after : S)
    : Type 0 where
  pub source : status ≡ SOURCE_FAILED → Rose (source_of.faults before) (source_of.faults after)
  pub sound : status ≢ NO_MEMORY → status ≢ SOURCE_FAILED
      → source_of.faults after ≡ source_of.faults before
  pub read : IfSome (source_of.left before)
      (λ all. status ≢ NO_MEMORY → status ≢ SOURCE_FAILED
      → source_of.left after ≡ Some (left_behind most all))

-- No result of an input: refused (1), where its bytes are refused; out of memory (3); or a
-- source that failed (4).
pub record RefusesInput (Refuses : List ℕ → Type 0) (status : ℕ) (left : Option (List ℕ))
    : Type 0 where
  pub known : (status ≡ REFUSED) ⊎ (status ≡ NO_MEMORY) ⊎ (status ≡ SOURCE_FAILED)
  pub refused : status ≡ REFUSED → OfInput left Refuses

-- the bytes have a first fault as a script, and the line on that was gained
abbrev pub RefusesScript : Mode → ℕ → Option (List ℕ) → SinkChange → Type 0
RefusesScript mode status left out =
    RefusesInput (λ script. IsErrAnd (script_of mode script)
    (λ fault. GainsUnless out (refusal_text fault))) status left

-- they have one as a score
abbrev pub RefusesScore : ℕ → Option (List ℕ) → SinkChange → Type 0
RefusesScore status left out =
    RefusesInput (λ score. IsErrAnd (score_of score)
    (λ fault. GainsUnless out (score_fault_text fault))) status left

-- they are too many for a recording, and the line on that was gained
abbrev pub RefusesLength : ℕ → Option (List ℕ) → SinkChange → Type 0
RefusesLength status left out =
    RefusesInput (λ recording. (max_recording < length recording)
    × GainsUnless out (malformed_text max_recording)) status left
