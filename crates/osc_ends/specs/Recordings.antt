-- How the commands end that read a recording.
use Rattle.osc_ends.specs.declared.status.TheConstants.{DONE, NO_MEMORY, REFUSED, SINK_FAILED}
use Rattle.std.specs.Prelude.{◌≡◌, ◌⊎◌, ℕ, ◌≤◌, ◌<◌, List, length}
use Rattle.osc_model.specs.Limits.{Limits, max_recording}
use Rattle.osc_model.specs.Events.{Entry}
use Rattle.osc_model.specs.Recordings.{record_text}
use Rattle.osc_laws.specs.Laws.{KeepsTheLaws}
use Rattle.osc_replay.specs.Printed.{printed}
use Rattle.osc_print.specs.Dumps.{dumped}
use Rattle.osc_replay.specs.Formed.{IsFormed, IsUnformedAt}
use Rattle.osc_replay.specs.Disagreeing.{DisagreesAt, IsRecordingOf}
use Rattle.osc_replay.specs.Old.{IsOldRecordingOf, IsOldUnformedAt, OldLegal}
use Rattle.osc_replay.specs.Upgrading.{DisagreesThere, PrintsTheSame, upgraded, upgraded_text}
use Rattle.osc_ends.specs.Printing.{malformed_text, disagrees_text, too_large_text}
use Rattle.osc_ends.specs.Sinks.{SinkChange, GainsAll, GainsPart, GainsUnless}

-- The lines on bytes that are no well-formed recording: there are too many, or else the first place
-- where they are malformed.
abbrev pub RefusesForm : List ℕ → List ℕ → Type 0
RefusesForm bytes lines =
    ((max_recording < length bytes) × (lines ≡ malformed_text max_recording))
    ⊎ ((at : ℕ) × (length bytes ≤ max_recording) × IsUnformedAt bytes at
    × (lines ≡ malformed_text at))

-- The lines on bytes that aren't the recording of a server: those on bytes that are no well-formed
-- one, or else those on the first entry that the server wouldn't have given.
abbrev pub RefusesRecording : List ℕ → List ℕ → Type 0
RefusesRecording bytes lines =
    RefusesForm bytes lines
    ⊎ ((entry : ℕ) × (kept : List ℕ) × (computed : List ℕ) × DisagreesAt bytes entry kept computed
    × (lines ≡ disagrees_text entry kept computed))

-- the bytes are the recording of a history that the server's rules give, it keeps the four laws,
-- and this is its printed text
pub record ReplaysTo (bytes printed_text : List ℕ) : Type 0 where
  pub caps : Limits
  pub history : List Entry
  pub recording_of : IsRecordingOf bytes caps history
  pub laws : KeepsTheLaws caps history
  pub text : printed_text ≡ printed caps history

-- The end of a command that reads a recording, by its status: done (0), where the bytes have a text
-- of the command, and it was gained; refused (1), where they have lines that refuse them, and these
-- were gained; cut short (5), where the sink failed, and a front of the text was gained. Out of
-- memory (3) promises nothing.
pub record EndsRecording (Writes Refuses : List ℕ → List ℕ → Type 0) (status : ℕ)
    (bytes : List ℕ) (out : SinkChange) : Type 0 where
  pub known : (status ≡ DONE) ⊎ (status ≡ REFUSED) ⊎ (status ≡ NO_MEMORY) ⊎ (status ≡ SINK_FAILED)
  pub done : status ≡ DONE → (text : List ℕ) × Writes bytes text × GainsAll out text
  pub refused : status ≡ REFUSED → (lines : List ℕ) × Refuses bytes lines × GainsUnless out lines
  pub cut_short : status ≡ SINK_FAILED → (text : List ℕ) × Writes bytes text × GainsPart out text

-- the bytes are a well-formed recording, whether a server made it or not, and this is its dump
pub record DumpsTo (bytes text : List ℕ) : Type 0 where
  pub caps : Limits
  pub entries : List Entry
  pub formed : IsFormed caps entries
  pub recording : bytes ≡ record_text caps entries
  pub text_is : text ≡ dumped caps entries

-- The bytes are a recording of the first version, and this is the upgraded one, which a recording
-- may have. If the first version's rules give its history, the text is the recording of the same
-- history and prints the same lines; else a replay of the text disagrees at the first entry that
-- they don't give.
pub record UpgradesTo (bytes text : List ℕ) : Type 0 where
  pub caps : Limits
  pub history : List Entry
  pub recording_of : IsOldRecordingOf bytes caps history
  pub text_is : text ≡ upgraded_text max_recording caps history
  pub few : length text ≤ max_recording
  pub formed : IsFormed (upgraded max_recording caps history) history
  pub legal : OldLegal caps history → PrintsTheSame text max_recording caps history
  pub illegal : DisagreesThere text max_recording caps history

-- The lines on bytes that aren't upgraded: there are too many, or else the first place where they
-- are no recording of the first version, or else how many bytes the upgraded one needs, which are
-- more than a recording may have.
abbrev pub RefusesUpgrade : List ℕ → List ℕ → Type 0
RefusesUpgrade bytes lines =
    ((max_recording < length bytes) × (lines ≡ malformed_text max_recording))
    ⊎ ((at : ℕ) × (length bytes ≤ max_recording) × IsOldUnformedAt bytes at
    × (lines ≡ malformed_text at))
    ⊎ ((caps : Limits) × (history : List Entry) × IsOldRecordingOf bytes caps history
    × (max_recording < length (upgraded_text max_recording caps history))
    × (lines
    ≡ too_large_text (length (upgraded_text max_recording caps history)) max_recording))
