-- How a program ends that plays a script on many threads.
use Rattle.std.specs.Prelude.{◌≡◌, ◌⊎◌, ℕ, ◌≤◌, ◌<◌, List, IsOkAnd, IsErrAnd}
use Rattle.osc_script.specs.declared.line.Line.{Line}
use Rattle.osc_script.specs.declared.mode.Mode.{Mode}
use Rattle.osc_script.specs.Scripts.{script_of}
use Rattle.osc_ends.specs.declared.outcome.Outcome.{Outcome}
use Rattle.osc_ends.specs.declared.status.TheConstants.{BANK_SHORT, NO_MEMORY}
use Rattle.osc_ends.specs.declared.status.TheConstants.{REFUSED, SINK_FAILED}
use Rattle.osc_ends.specs.Ends.{IsWritten}
use Rattle.osc_ends.specs.Outcomes.{status_of}
use Rattle.osc_script.specs.Adds.{count_adds}
use Rattle.osc_ends.specs.Printing.{refusal_text, bank_short_text}
use Rattle.osc_ends.specs.Sinks.{SinkChange, GainsAll, GainsPart, GainsUnless, IsUntouched}

-- The end of a program that plays a script on many threads, by its status. Done (0), full (6) or
-- failed (7), as the outcome says: there is a box for each add, the script was played, and both
-- sinks gained all. Cut short (5): the script was played, and the sink of the recording failed, and
-- nothing was written to the other, or this one did, after a whole recording. Refused (1): the
-- script has a first fault, and bank short (8): there are fewer boxes than adds, each with its
-- line. Out of memory (3) promises nothing.
pub record EndsLive (mode : Mode) (plays : List Line → List ℕ → List ℕ → Outcome → Type 0)
    (status : ℕ) (script : List ℕ) (have : ℕ) (rec out : SinkChange) : Type 0 where
  pub known : IsWritten status ⊎ (status ≡ REFUSED) ⊎ (status ≡ NO_MEMORY)
      ⊎ (status ≡ SINK_FAILED) ⊎ (status ≡ BANK_SHORT)
  pub written : IsWritten status → IsOkAnd (script_of mode script) (λ lines.
      (count_adds lines ≤ have) × (recording : List ℕ) × (text : List ℕ) × (outcome : Outcome)
      × (status ≡ status_of outcome) × plays lines recording text outcome
      × GainsAll rec recording × GainsAll out text)
  pub cut_short : status ≡ SINK_FAILED → IsOkAnd (script_of mode script) (λ lines.
      (count_adds lines ≤ have) × (recording : List ℕ) × (text : List ℕ) × (outcome : Outcome)
      × plays lines recording text outcome
      × ((GainsPart rec recording × IsUntouched out)
      ⊎ (GainsAll rec recording × GainsPart out text)))
  pub refused : status ≡ REFUSED
      → IsErrAnd (script_of mode script) (λ fault. GainsUnless out (refusal_text fault))
  pub bank_short : status ≡ BANK_SHORT → IsOkAnd (script_of mode script) (λ lines.
      (have < count_adds lines) × GainsUnless out (bank_short_text (count_adds lines) have))
