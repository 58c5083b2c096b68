-- Inputs that are all read before any of them is judged.
use Rattle.std.specs.Prelude.{◌≡◌, ℕ, ◌<◌, ◌≤◌, List, length, Option, Some, [], IfSome}
use Rattle.osc_model.specs.Limits.{Limits}
use Rattle.osc_model.specs.Events.{Entry}
use Rattle.osc_replay.specs.Disagreeing.{IsRecordingOf}
use Rattle.osc_ends.specs.declared.judgement.Whole.{Whole}
use Rattle.osc_ends.specs.declared.judgement.Whole.TheVariants.{Bytes, TooLong}
use Rattle.osc_ends.specs.Recordings.{RefusesRecording}
use Rattle.osc_ends.specs.Sinks.{SinkChange, GainsUnless}

-- what was read of these bytes: all of them, or they are more than the limit
abbrev pub IsReadOf : ℕ → Whole → List ℕ → Type 0
IsReadOf most (Bytes read) bytes = (read.items ≡ bytes) × (length bytes ≤ most)
IsReadOf most TooLong bytes = most < length bytes

-- it is all of them
abbrev pub IsAll : Whole → Type 0
IsAll (Bytes read) = Unit {0}
IsAll TooLong = ⊥

-- where it is, nothing is left
abbrev pub Empties : Whole → Option (List ℕ) → Option (List ℕ) → Type 0
Empties whole left after = IsAll whole → IfSome left (λ all. after ≡ Some [])

-- the bytes are the recording of a legal history, and this is a replay of it
pub record IsChecked (replay bytes : List ℕ) : Type 0 where
  pub replay_is : replay ≡ bytes
  pub caps : Limits
  pub history : List Entry
  pub recording_of : IsRecordingOf bytes caps history

-- the bytes aren't, and the lines on that were gained
abbrev pub RefusesPast : List ℕ → SinkChange → Type 0
RefusesPast bytes out = (lines : List ℕ) × RefusesRecording bytes lines × GainsUnless out lines
