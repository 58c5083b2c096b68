-- Inside the crate: what is made of a recording, and how writing it ends.
use Rattle.osc_ends.specs.declared.status.TheConstants.{NO_MEMORY, SINK_FAILED}
use Rattle.std.specs.Prelude.{◌≡◌, ◌⊎◌, ℕ, List, Option, Some, None}
use Rattle.osc_model.specs.Limits.{Limits}
use Rattle.osc_model.specs.Events.{Entry}
use Rattle.osc_replay.specs.Disagreeing.{IsRecordingOf}
use Rattle.osc_replay.specs.Onward.{GoesOnFrom}
use Rattle.osc_ends.specs.Sinks.{SinkChange, GainsAll, GainsPart, IsUntouched}

-- the text of a recording can be computed: by the replay of the past that it goes on from, where
-- there is one, else by its own
abbrev pub CanBePrinted : Option (List ℕ) → List ℕ → Type 0
CanBePrinted None recording =
    (caps : Limits) × (history : List Entry) × IsRecordingOf recording caps history
CanBePrinted (Some past) recording = GoesOnFrom past recording

-- The end of writing a recording to one sink and then its text to another: as it was decided, where
-- both were gained; cut short (5), where the first failed and nothing was written to the second, or
-- the second failed, after a whole recording. Out of memory (3) promises nothing.
pub record EndsBoth (decided status : ℕ) (recording text : List ℕ) (rec out : SinkChange)
    : Type 0 where
  pub known : (status ≡ decided) ⊎ (status ≡ NO_MEMORY) ⊎ (status ≡ SINK_FAILED)
  pub done : status ≡ decided → GainsAll rec recording × GainsAll out text
  pub cut_short : status ≡ SINK_FAILED → (GainsPart rec recording × IsUntouched out)
      ⊎ (GainsAll rec recording × GainsPart out text)
