-- Inside the crate: whether boxes and callers reach for lines after a past.
use Rattle.std.specs.Prelude.{◌≡◌, ◌⊎◌, ℕ, ◌+◌, ◌≤◌, ◌<◌, IsTrue, List, [], map, Option, Some, None}
use Rattle.osc_model.specs.Limits.{Limits}
use Rattle.osc_model.specs.Events.{Entry}
use Rattle.osc_core.specs.Ids.{is_ascending}
use Rattle.osc_replay.specs.Disagreeing.{IsRecordingOf}
use Rattle.osc_replay.specs.declared.checked.Checked.{Checked}
use Rattle.osc_script.specs.declared.line.Line.{Line}
use Rattle.osc_script.specs.Adds.{count_adds}
use Rattle.osc_ends.specs.declared.status.TheConstants.{BANK_SHORT, CALLERS_FULL}
use Rattle.osc_ends.specs.Ends.{EndsLine}
use Rattle.osc_ends.specs.Printing.{bank_short_text, callers_full_text}
use Rattle.osc_ends.specs.Sinks.{SinkChange}
use Rattle.osc_top.specs.EndsResumed.{AreEnough, IsUnresumed}
use Rattle.osc_top.specs.Lanes.{lane_count}

-- how many boxes, and how many callers, by what a check found of a past
abbrev pub boxes_told : Checked → List Line → ℕ
boxes_told checked lines = checked.adds + count_adds lines

abbrev pub callers_told : Checked → List Line → ℕ
callers_told checked lines = checked.callers + lane_count lines

-- So many boxes don't reach, or the callers are more than the limits allow, and the line on that is
-- written; or both reach.
abbrev pub Reaches : Option ℕ → Checked → List Line → ℕ → SinkChange → Type 0
Reaches None checked lines have out =
    (boxes_told checked lines ≤ have) × (callers_told checked lines ≤ checked.caps.callers)
Reaches (Some status) checked lines have out =
    ((have < boxes_told checked lines)
    × EndsLine BANK_SHORT status (bank_short_text (boxes_told checked lines) have) out)
    ⊎ ((boxes_told checked lines ≤ have) × (checked.caps.callers < callers_told checked lines)
    × EndsLine CALLERS_FULL status
    (callers_full_text (callers_told checked lines) checked.caps.callers) out)

-- the bytes are the recording of this history, and there are boxes and callers enough for lines
-- after it
pub record CanGoOn (bytes : List ℕ) (lines : List Line) (have : ℕ) (caps : Limits)
    (before : List Entry) : Type 0 where
  pub recording_of : IsRecordingOf bytes caps before
  pub enough : AreEnough have caps before lines

-- Where nothing was played all boxes of the bank come back. Those that were added stand by their
-- ids.
pub record HandsBackAll {M : Type 0} (status : ℕ) (bank : List M) (heard : List (ℕ × M))
    (left : List M) : Type 0 where
  pub ascending : IsTrue (is_ascending (map (λ one. one.0) heard))
  pub none_heard : IsUnresumed status → heard ≡ []
  pub all_left : IsUnresumed status → left ≡ bank
