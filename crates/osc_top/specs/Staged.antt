-- Inside the crate: the results of a script and of a bank, before it is written.
use Rattle.std.specs.Prelude.{◌≡◌, ℕ, Bool, List, Option}
use Rattle.osc_method.specs.Heard.{Fixed}
use Rattle.osc_model.specs.Events.{Entry, Room}
use Rattle.osc_core.specs.Standing.{history_in}
use Rattle.osc_turn.specs.History.{texts}
use Rattle.osc_lanes.specs.Shares.{Account}
use Rattle.osc_lanes.specs.Performs.{Part}
use Rattle.osc_lanes.specs.Later.{Performs}
use Rattle.osc_replay.specs.Disagreeing.{IsRecordingOf}
use Rattle.osc_model.specs.Limits.{Limits}
use Rattle.osc_ends.specs.declared.outcome.Outcome.{Outcome}
use Rattle.osc_ends.specs.Printing.{recorded_text}
use Rattle.osc_top.specs.Watched.{watched_text}

-- A script was played. The text that is to be written is that of the recorded history, and then
-- what is said of the faults and of how it ended.
pub record IsStaged (plays : List ℕ → List ℕ → Outcome → Type 0) (caps : Limits)
    (recording said : List ℕ) (outcome : Outcome) : Type 0 where
  pub history : List Entry
  pub recording_of : IsRecordingOf recording caps history
  pub played : plays recording (recorded_text caps history said outcome) outcome

-- Parts were played, and this is what is printed of the methods that stand after their history.
pub record PerformsWatched {M : Type 0} (keep : M → Fixed) (heard : M → Option (List ℕ))
    (caps : Limits) (watched : Bool) (parts : List (Part M)) (recording : List ℕ)
    (kept : List (ℕ × M)) (accounts : List (Account M)) (unenrolled : Option Room)
    (list : List ℕ) : Type 0 where
  pub performs : Performs keep heard caps parts recording kept accounts unenrolled
  pub list_is : list ≡ watched_text watched (history_in (texts performs.history))
