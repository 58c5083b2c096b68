-- How a program ends that goes on from a recording.
use Rattle.std.specs.Prelude.{◌≡◌, ◌⊎◌, ℕ, ◌≤◌, ◌<◌, List, IsOkAnd}
use Rattle.osc_model.specs.Limits.{Limits}
use Rattle.osc_model.specs.Events.{Entry}
use Rattle.osc_replay.specs.Disagreeing.{IsRecordingOf}
use Rattle.osc_script.specs.declared.line.Line.{Line}
use Rattle.osc_script.specs.declared.mode.Mode.TheVariants.{Lanes}
use Rattle.osc_script.specs.Scripts.{script_of}
use Rattle.osc_ends.specs.declared.outcome.Outcome.{Outcome}
use Rattle.osc_ends.specs.declared.status.TheConstants.{BANK_SHORT, CALLERS_FULL, DONE, NO_MEMORY}
use Rattle.osc_ends.specs.declared.status.TheConstants.{RECORDING_FULL, REFUSED, SINK_FAILED}
use Rattle.osc_ends.specs.Ends.{IsUnplayed}
use Rattle.osc_ends.specs.Outcomes.{status_of}
use Rattle.osc_ends.specs.Printing.{bank_short_text, callers_full_text}
use Rattle.osc_ends.specs.Sinks.{SinkChange, Fails, GainsAll, GainsPart, GainsUnless, IsUntouched}
use Rattle.osc_top.specs.Resumed.{boxes_for, callers_for}
use Rattle.osc_top.specs.Taken.{RefusesPastOrScript}

-- a status with which lanes were played after a past, and all was written
abbrev pub IsResumed : ℕ → Type 0
IsResumed status = (status ≡ DONE) ⊎ (status ≡ RECORDING_FULL)

-- nothing was played after a past: what came in is refused, or there are too few boxes or callers
abbrev pub IsUnresumed : ℕ → Type 0
IsUnresumed status = IsUnplayed status ⊎ (status ≡ CALLERS_FULL)

-- what holds of the history whose recording the first bytes are, and of the lines of a script
abbrev pub OfBoth : List ℕ → List ℕ → (Limits → List Entry → List Line → Type 0) → Type 0
OfBoth bytes script P =
    (caps : Limits) × (before : List Entry) × IsRecordingOf bytes caps before
    × IsOkAnd (script_of Lanes script) (λ lines. P caps before lines)

-- there is a box for each add, and a caller for each lane
abbrev pub AreEnough : ℕ → Limits → List Entry → List Line → Type 0
AreEnough have caps before lines =
    (boxes_for before lines ≤ have) × (callers_for before lines ≤ caps.callers)

-- The end of a program that goes on from a recording, by its status. Done (0) or full (6), as the
-- outcome says: there are boxes and callers enough, the script was played, and both sinks gained
-- all. Cut short (5): the script was played, and the sink of the recording failed, and nothing was
-- written to the other, or this one did, after a whole recording. Refused (1): the bytes are no
-- recording of a legal history, or else the script has a first fault; bank short (8): there are
-- fewer boxes than adds; callers full (9): there are more callers than the limits allow; each with
-- its line. Out of memory (3) promises nothing. Where both are lawful and enough is there, sinks
-- that don't fail leave it at done, full, or out of memory.
pub record EndsResumed
    (plays : Limits → List Entry → List Line → List ℕ → List ℕ → Outcome → Type 0)
    (status : ℕ) (bytes script : List ℕ) (have : ℕ) (rec out : SinkChange) : Type 0 where
  pub known : IsResumed status ⊎ (status ≡ REFUSED) ⊎ (status ≡ NO_MEMORY)
      ⊎ (status ≡ SINK_FAILED) ⊎ (status ≡ BANK_SHORT) ⊎ (status ≡ CALLERS_FULL)
  pub written : IsResumed status → OfBoth bytes script (λ caps before lines.
      AreEnough have caps before lines × (recording : List ℕ) × (text : List ℕ)
      × (outcome : Outcome) × (status ≡ status_of outcome)
      × plays caps before lines recording text outcome × GainsAll rec recording
      × GainsAll out text)
  pub cut_short : status ≡ SINK_FAILED → OfBoth bytes script (λ caps before lines.
      AreEnough have caps before lines × (recording : List ℕ) × (text : List ℕ)
      × (outcome : Outcome) × plays caps before lines recording text outcome
      × ((GainsPart rec recording × IsUntouched out)
      ⊎ (GainsAll rec recording × GainsPart out text)))
  pub refused : status ≡ REFUSED → RefusesPastOrScript out bytes script
  pub bank_short : status ≡ BANK_SHORT → OfBoth bytes script (λ caps before lines.
      (have < boxes_for before lines)
      × GainsUnless out (bank_short_text (boxes_for before lines) have))
  pub callers_full : status ≡ CALLERS_FULL → OfBoth bytes script (λ caps before lines.
      (boxes_for before lines ≤ have) × (caps.callers < callers_for before lines)
      × GainsUnless out (callers_full_text (callers_for before lines) caps.callers))
  pub complete : OfBoth bytes script (AreEnough have) → ¬ Fails out → ¬ Fails rec
      → IsResumed status ⊎ (status ≡ NO_MEMORY)
