-- How each command of `osc` ends, and what becomes of the boxes that it was handed.
use Rattle.std.specs.Prelude.{◌≡◌, ◌≢◌, ℕ, ◌≤◌, IsTrue, List, [], map, length, Option}
use Rattle.std.specs.Prelude.{IsOk, IsOkAnd}
use Rattle.osc_method.specs.Heard.{Fixed}
use Rattle.osc_core.specs.Ids.{is_ascending}
use Rattle.osc_model.specs.Limits.{Limits, max_recording}
use Rattle.osc_model.specs.Events.{Entry}
use Rattle.osc_model.specs.Recordings.{record_text}
use Rattle.osc_replay.specs.Disagreeing.{IsRecordingOf}
use Rattle.osc_replay.specs.Formed.{IsFormed}
use Rattle.osc_replay.specs.Old.{IsOldRecordingOf}
use Rattle.osc_replay.specs.Upgrading.{upgraded_text}
use Rattle.osc_script.specs.Scripts.{plain_script}
use Rattle.osc_words.specs.declared.command.PlainCommand.{PlainCommand}
use Rattle.osc_words.specs.declared.command.PlainCommand.TheVariants.{Read, Gen}
use Rattle.osc_words.specs.declared.command.Reading.{Reading}
use Rattle.osc_words.specs.declared.command.Reading.TheVariants.{Run, Replay, Dump, Upgrade}
use Rattle.osc_words.specs.declared.command.Reading.TheVariants.{Score, PlayScore}
use Rattle.osc_score.specs.Scores.{addresses_of}
use Rattle.osc_score.specs.Reading.{score_of}
use Rattle.osc_script.specs.Adds.{count_adds}
use Rattle.osc_ends.specs.declared.status.TheConstants.{NO_MEMORY}
use Rattle.osc_ends.specs.Ends.{IsUnplayed}
use Rattle.osc_ends.specs.CommandEnds.{IsCommandsEnd}
use Rattle.osc_ends.specs.Printing.{refusal_text}
use Rattle.osc_ends.specs.Recordings.{EndsRecording, DumpsTo, RefusesForm, RefusesRecording}
use Rattle.osc_ends.specs.Recordings.{RefusesUpgrade, ReplaysTo, UpgradesTo}
use Rattle.osc_ends.specs.Inputs.{SourceOf}
use Rattle.osc_ends.specs.Sinks.{SinkChange, SinkOf, change}
use Rattle.osc_plain.specs.declared.report.Report.TheVariants.{Summary, Text}
use Rattle.osc_plain.specs.Commands.{default_limits, drawn_lines, most_bytes, plain_limits}
use Rattle.osc_plain.specs.Runs.{IsUnstopped, EndsOver, EndsRead, report_of}
use Rattle.osc_plain.specs.Scores.{EndsPlayedScore, EndsScore}

-- A command can be done with so many boxes and this input: a lawful script has a box for each add
-- and room for its recording; a score is lawful, and to be played it has a box for each distinct
-- address; a recording is that of a history which the server's rules give, for a dump a well-formed
-- one, and for an upgrade one of the first version that isn't too large as one of today.
abbrev pub CanBeRead : Reading → ℕ → List ℕ → Type 0
CanBeRead (Run output caps) have script = IsOkAnd (plain_script script)
    (λ lines. (count_adds lines ≤ have) × IsUnstopped (plain_limits caps) lines)
CanBeRead Replay have recording =
    (caps : Limits) × (history : List Entry) × IsRecordingOf recording caps history
CanBeRead Dump have recording = (caps : Limits) × (entries : List Entry)
    × IsFormed caps entries × (recording ≡ record_text caps entries)
CanBeRead Upgrade have recording = (caps : Limits) × (history : List Entry)
    × IsOldRecordingOf recording caps history
    × (length (upgraded_text max_recording caps history) ≤ max_recording)
CanBeRead Score have score = IsOk (score_of score)
CanBeRead PlayScore have score =
    IsOkAnd (score_of score) (λ notes. length (addresses_of notes) ≤ have)

module _ {M : Type 0} where
  -- Where nothing was played all boxes of the bank come back. Those that were added stand by their
  -- ids.
  pub record HandsBack (status : ℕ) (bank : List M) (heard : List (ℕ × M)) (left : List M)
      : Type 0 where
    pub ascending : IsTrue (is_ascending (map (λ one. one.0) heard))
    pub none_heard : IsUnplayed status → heard ≡ []
    pub all_left : IsUnplayed status → left ≡ bank

  -- a command that plays nothing hands all boxes back
  abbrev pub HandsAllBack : ℕ → List M → List (ℕ × M) → List M → Type 0
  HandsAllBack status bank heard left = status ≢ NO_MEMORY → (heard ≡ []) × (left ≡ bank)

module _ {M : Type 0} (keep : M → Fixed) (tells : M → Option (List ℕ)) (status : ℕ) (bank : List M)
    (heard : List (ℕ × M)) (left : List M) where
  -- the end of a command that reads an input, and what becomes of the boxes
  abbrev pub EndsReading : Reading → List ℕ → SinkChange → Type 0
  EndsReading (Run output caps) input out = EndsRead (plain_script input) refusal_text (EndsOver
      keep tells (report_of output) (plain_limits caps) status bank heard left out) status out
  EndsReading Replay input out = EndsRecording ReplaysTo RefusesRecording status input out
      × HandsAllBack status bank heard left
  EndsReading Dump input out = EndsRecording DumpsTo RefusesForm status input out
      × HandsAllBack status bank heard left
  EndsReading Upgrade input out = EndsRecording UpgradesTo RefusesUpgrade status input out
      × HandsAllBack status bank heard left
  EndsReading Score input out = EndsScore status input out × HandsAllBack status bank heard left
  EndsReading PlayScore input out = EndsPlayedScore
      (EndsOver keep tells Text default_limits status bank heard left out) status input out

module _ {S O M : Type 0} (source_of : SourceOf S) (sink_of : SinkOf O) (keep : M → Fixed)
    (tells : M → Option (List ℕ)) where
  -- the end of a command, and what becomes of the boxes
  abbrev pub EndsPlain : PlainCommand → ℕ → S → S → O → O → List M → List (ℕ × M) → List M → Type 0
  EndsPlain (Read reading) status source source_after out out_after bank heard left =
      IsCommandsEnd source_of sink_of (most_bytes reading) status source source_after out out_after
      (EndsReading keep tells status bank heard left reading) (CanBeRead reading (length bank))
  EndsPlain (Gen seed lines) status source source_after out out_after bank heard left =
      EndsOver keep tells Summary default_limits status bank heard left
      (change sink_of out out_after) (drawn_lines seed lines)
