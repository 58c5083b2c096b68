-- What is taken in of two inputs, a past and a script.
use Rattle.std.specs.Prelude.{◌≡◌, ◌≢◌, ◌⊎◌, ℕ, List, Option, IfSome, Result, Ok, IfOk, IfErr}
use Rattle.std.specs.Prelude.{IsErrAnd}
use Rattle.osc_model.specs.Limits.{Limits}
use Rattle.osc_model.specs.Events.{Entry}
use Rattle.osc_replay.specs.Disagreeing.{IsRecordingOf}
use Rattle.osc_script.specs.declared.line.Line.{Line}
use Rattle.osc_script.specs.declared.mode.Mode.TheVariants.{Lanes}
use Rattle.osc_script.specs.Scripts.{script_of}
use Rattle.osc_ends.specs.declared.status.TheConstants.{REFUSED}
use Rattle.osc_ends.specs.Judging.{IsChecked, RefusesPast}
use Rattle.osc_ends.specs.Printing.{refusal_text}
use Rattle.osc_ends.specs.Sinks.{SinkChange, GainsUnless}
use Rattle.osc_top.specs.declared.intake.Taken.{Taken}

-- what holds of the bytes that two inputs have left, or of some where one doesn't report them
abbrev pub OfInputs : Option (List ℕ) → Option (List ℕ) → (List ℕ → List ℕ → Type 0) → Type 0
OfInputs past input P =
    (bytes : List ℕ) × (script : List ℕ) × IfSome past (λ all. bytes ≡ all)
    × IfSome input (λ all. script ≡ all) × P bytes script

-- the bytes are the recording of a legal history
abbrev pub IsPast : List ℕ → Type 0
IsPast bytes = (caps : Limits) × (history : List Entry) × IsRecordingOf bytes caps history

-- the bytes aren't, or they are and the script has a first fault; and the lines on that were gained
abbrev pub RefusesPastOrScript : SinkChange → List ℕ → List ℕ → Type 0
RefusesPastOrScript out bytes script =
    RefusesPast bytes out
    ⊎ (IsPast bytes
    × IsErrAnd (script_of Lanes script) (λ fault. GainsUnless out (refusal_text fault)))

-- Inside the crate: a replay of the past, and the script's lines.
abbrev pub IsTaken : Taken → List ℕ → List ℕ → Type 0
IsTaken taken bytes script =
    IsChecked taken.past bytes × (script_of Lanes script ≡ Ok taken.lines.items)

-- Inside the crate: both are taken, or one of them is refused (1), and the lines on that were
-- gained. Neither is refused where the past is the recording of a legal history and the script has
-- lines.
pub record TakesIn (taken : Result Taken ℕ) (bytes script : List ℕ) (out : SinkChange)
    : Type 0 where
  pub both : IfOk taken (λ taken. IsTaken taken bytes script)
  pub refused : IfErr taken (λ status. status ≡ REFUSED → RefusesPastOrScript out bytes script)
  pub complete : (lines : List Line) → IsPast bytes → script_of Lanes script ≡ Ok lines
      → IfErr taken (λ status. status ≢ REFUSED)
