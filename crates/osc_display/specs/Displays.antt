-- The result of a performance of lanes next to a display of its methods.
use Rattle.std.specs.Prelude.{◌≡◌, ℕ, List, length, Option}
use Rattle.osc_method.specs.Heard.{Fixed}
use Rattle.osc_model.specs.Limits.{Limits}
use Rattle.osc_model.specs.Events.{Entry, Room}
use Rattle.osc_core.specs.Standing.{history_in}
use Rattle.osc_turn.specs.History.{texts}
use Rattle.osc_lanes.specs.Shares.{Account}
use Rattle.osc_lanes.specs.Performs.{Part}
use Rattle.osc_lanes.specs.Later.{Performs}
use Rattle.osc_watch.specs.declared.watcher.Methods.{Methods}
use Rattle.osc_watch.specs.Edits.{edits_of}
use Rattle.osc_watch.specs.Listing.{listing}

-- the methods are those that stand after a history, and so many edits does it make
pub record Lists (history : List Entry) (methods : Methods) : Type 0 where
  pub edits : methods.edits ≡ length (edits_of history)
  pub rows : methods.rows.items ≡ listing (edits_of history)

-- The parts were played on one new server, each as a lane next to the others, and the methods are
-- those that stand after its one history.
pub record Displays {M : Type 0} (keep : M → Fixed) (heard : M → Option (List ℕ)) (caps : Limits)
    (parts : List (Part M)) (recording : List ℕ) (kept : List (ℕ × M))
    (accounts : List (Account M)) (unenrolled : Option Room) (methods : Methods) : Type 0 where
  pub performs : Performs keep heard caps parts recording kept accounts unenrolled
  pub lists : Lists (history_in (texts performs.history)) methods
