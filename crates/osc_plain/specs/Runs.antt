-- How a run of a script's lines ends, and what it writes.
use Rattle.osc_method.specs.Heard.{Fixed}
use Rattle.osc_ends.specs.declared.status.TheConstants.{BANK_SHORT, DONE, NO_MEMORY, RECORDING_FULL}
use Rattle.osc_ends.specs.declared.status.TheConstants.{REFUSED, SINK_FAILED}
use Rattle.std.specs.Prelude.{◌≡◌, ◌≢◌, ◌⊎◌, ℕ, ◌<◌, List, ◌++◌, length, Option, None, Result}
use Rattle.std.specs.Prelude.{IsSome, IsOkAnd, IsErrAnd}
use Rattle.osc_model.specs.Limits.{Limits}
use Rattle.osc_model.specs.Recordings.{record_text}
use Rattle.osc_replay.specs.Counted.{summary as summary_text}
use Rattle.osc_replay.specs.Disagreeing.{IsRecordingOf}
use Rattle.osc_script.specs.declared.line.Line.{Line}
use Rattle.osc_script.specs.Adds.{count_adds}
use Rattle.osc_words.specs.declared.command.Output.{Output}
use Rattle.osc_words.specs.declared.command.Output.TheVariants as output
use Rattle.osc_ends.specs.declared.outcome.Outcome.{Outcome}
use Rattle.osc_ends.specs.Outcomes.{stopped}
use Rattle.osc_ends.specs.Printing.{bank_short_text, last_text, recorded_text}
use Rattle.osc_ends.specs.Sinks.{SinkChange, GainsAll, GainsPart, GainsUnless}
use Rattle.osc_player.specs.Bank.{IsAccounted}
use Rattle.osc_player.specs.Plain.{plain, printed_faults}
use Rattle.osc_plain.specs.declared.report.Report.{Report}
use Rattle.osc_plain.specs.declared.report.Report.TheVariants.{Text, Recording, Summary}

-- a script was played, and recorded
abbrev pub IsPlayed : ℕ → Type 0
IsPlayed status = (status ≡ DONE) ⊎ (status ≡ SINK_FAILED) ⊎ (status ≡ RECORDING_FULL)

-- no event of the lines wants more room than is left
abbrev pub IsUnstopped : Limits → List Line → Type 0
IsUnstopped caps lines = (plain caps lines).stop ≡ None

-- the text of a run: the printed history, the lines of the faults, and where it was stopped the
-- line on that
abbrev pub run_text : Limits → List Line → List ℕ
run_text caps lines =
    recorded_text caps (plain caps lines).history (printed_faults (plain caps lines).faults)
    (stopped (plain caps lines).stop)

-- what the words say to write of a run
abbrev pub report_of : Output → Report
report_of output.Text = Text
report_of output.Recording = Recording

-- what is written of a run
abbrev pub run_output : Report → Limits → List Line → List ℕ
run_output Text caps lines = run_text caps lines
run_output Recording caps lines = record_text caps (plain caps lines).history
run_output Summary caps lines =
    summary_text caps (plain caps lines).history ++ last_text (stopped (plain caps lines).stop)

-- The end of a run of lines over so many boxes, by its status: done (0), where no event wanted more
-- room than was left, and what the run writes was gained; cut short (5), where the sink failed, and
-- a front of that was gained; full (6), as done, but where an event wanted more room; bank short
-- (8), where there are fewer boxes than adds, and the line on that was gained. Out of memory (3)
-- promises nothing.
pub record EndsLines (report : Report) (caps : Limits) (status have : ℕ) (lines : List Line)
    (out : SinkChange) : Type 0 where
  pub known : (status ≡ DONE) ⊎ (status ≡ NO_MEMORY) ⊎ (status ≡ SINK_FAILED)
      ⊎ (status ≡ RECORDING_FULL) ⊎ (status ≡ BANK_SHORT)
  pub done : status ≡ DONE
      → IsUnstopped caps lines × GainsAll out (run_output report caps lines)
  pub cut_short : status ≡ SINK_FAILED → GainsPart out (run_output report caps lines)
  pub full : status ≡ RECORDING_FULL
      → IsSome (plain caps lines).stop × GainsAll out (run_output report caps lines)
  pub bank_short : status ≡ BANK_SHORT → (have < count_adds lines)
      × GainsUnless out (bank_short_text (count_adds lines) have)

-- The end of a run of lines over a bank, where each box is accounted for if something was played.
abbrev pub EndsOver : {M : Type 0} → (M → Fixed) → (M → Option (List ℕ)) → Report → Limits → ℕ
    → List M → List (ℕ × M) → List M → SinkChange → List Line → Type 0
EndsOver keep tells report caps status bank heard left out lines =
    EndsLines report caps status (length bank) lines out
    × (IsPlayed status → IsAccounted keep tells caps lines bank heard left)

-- The end of a command that reads a script or a score, by its status: refused (1), where it has a
-- first fault, and the line on that fault was gained; else, but out of memory (3), it is lawful,
-- and this holds of what it says.
pub record EndsRead {X F : Type 0} (read : Result X F) (line_on : F → List ℕ) (Ends : X → Type 0)
    (status : ℕ) (out : SinkChange) : Type 0 where
  pub refused : status ≡ REFUSED → IsErrAnd read (λ fault. GainsUnless out (line_on fault))
  pub lawful : status ≢ REFUSED → status ≢ NO_MEMORY → IsOkAnd read Ends

-- what was recorded of a run of lines: its recording, the lines of the faults, and how it ended
pub record RecordsRun (bytes faults : List ℕ) (outcome : Outcome) (caps : Limits)
    (lines : List Line) : Type 0 where
  pub recording : IsRecordingOf bytes caps (plain caps lines).history
  pub said : faults ≡ printed_faults (plain caps lines).faults
  pub ended : outcome ≡ stopped (plain caps lines).stop

-- The end of writing the result of a run of lines: done (0) or full (6) where all was gained, cut
-- short (5) where the sink failed.
pub record EndsPlayed (report : Report) (caps : Limits) (status : ℕ) (lines : List Line)
    (out : SinkChange) : Type 0 where
  pub known : (status ≡ DONE) ⊎ (status ≡ NO_MEMORY) ⊎ (status ≡ SINK_FAILED)
      ⊎ (status ≡ RECORDING_FULL)
  pub done : status ≡ DONE → IsUnstopped caps lines
      × GainsAll out (run_output report caps lines)
  pub cut_short : status ≡ SINK_FAILED
      → GainsPart out (run_output report caps lines)
  pub full : status ≡ RECORDING_FULL → IsSome (plain caps lines).stop
      × GainsAll out (run_output report caps lines)
