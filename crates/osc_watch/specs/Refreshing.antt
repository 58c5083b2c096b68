-- What a board has read.
use Rattle.std.specs.Prelude.{◌≡◌, ℕ, ◌+◌, ◌≤◌, List, ◌++◌, length}
use Rattle.osc_turn.specs.History.{StartsWith}
use Rattle.osc_model.specs.Limits.{Limits}
use Rattle.osc_model.specs.Events.{Entry}
use Rattle.osc_model.specs.Recordings.{record_text}
use Rattle.osc_watch.specs.declared.row.Edit.{Edit}
use Rattle.osc_watch.specs.declared.board.Board.{Board}
use Rattle.osc_watch.specs.declared.entries.Stop.{Stop}
use Rattle.osc_watch.specs.declared.refresh.Part.{Part}
use Rattle.osc_watch.specs.declared.refresh.Part.TheVariants.{Whole}
use Rattle.osc_watch.specs.Edits.{edits_of}
use Rattle.osc_watch.specs.Parts.{text_of}
use Rattle.osc_watch.specs.Notes.{AreReadable, AllIn}
use Rattle.osc_watch.specs.Watching.{noted}

-- the board has read this history: it has noted its edits, and stands at the end of its recording
pub record HasRead (caps : Limits) (board : Board) (history : List Entry) : Type 0 where
  pub edits : noted board ≡ edits_of history
  pub place : board.at ≡ length (record_text caps history)

-- it has read a beginning of it
abbrev pub HasReadPart : Limits → Board → List Entry → Type 0
HasReadPart caps board history =
    (read : List Entry) × HasRead caps board read × StartsWith history read

-- what it had read is kept, and it stands where it stood or further on
abbrev pub GoesOn : Board → Board → Type 0
GoesOn board after = StartsWith (noted after) (noted board) × (board.at ≤ after.at)

-- all that was there is read
abbrev pub IsWhole : Part → Type 0
IsWhole Whole = Unit {0}
IsWhole _ = ⊥

-- of entries whose text the part begins, a beginning was read, its edits noted, and the place moved
-- to its end
pub record PartOf (more : List Entry) (tail : List ℕ) (from to : ℕ) (noted then : List Edit)
    (stop : Stop) : Type 0 where
  pub read : List Entry
  pub left : List Entry
  pub split : more ≡ read ++ left
  pub noted_are : then ≡ noted ++ edits_of read
  pub moved : to ≡ from + length (text_of read)
  pub whole : AllIn stop tail left

abbrev pub PartNotes : List ℕ → ℕ → ℕ → List Edit → List Edit → Stop → Type 0
PartNotes part from to noted then stop = (more : List Entry) (tail : List ℕ) → AreReadable more
    → part ++ tail ≡ text_of more → PartOf more tail from to noted then stop
