-- Parts of lanes, and what was told of them.
use Rattle.std.specs.Prelude.{ℕ, ◌≤◌, List}
use Rattle.std.specs.Prelude.{length, map, Option}
use Rattle.std.specs.List.{flat_map}
use Rattle.std.specs.Option.{option_map}
use Rattle.osc_method.specs.Heard.{Fixed}
use Rattle.osc_model.specs.Limits.{Limits}
use Rattle.osc_record.specs.Shown.{room_of}
use Rattle.osc_core.specs.Telling.{told}
use Rattle.osc_script.specs.declared.line.Line.{Line}
use Rattle.osc_turn.specs.declared.view.Entry.{Entry as Seen}
use Rattle.osc_turn.specs.History.{own}
use Rattle.osc_lanes.specs.declared.part.LanePart.{LanePart}
use Rattle.osc_lanes.specs.declared.part.LaneTold.{LaneTold}
use Rattle.osc_script.specs.Adds.{count_adds}
use Rattle.osc_life.specs.Holders.{holder_at}
use Rattle.osc_life.specs.Lives.{Numbered}
use Rattle.osc_lanes.specs.Shares.{Account, LaneAfter}

-- a lane's lines, and a box for each of them that adds a method
pub record Part (M : Type 0) : Type 0 where
  pub lines : List Line
  pub boxes : List M

module _ {M : Type 0} where
  abbrev pub part_of : LanePart M → Part M
  part_of part = record { lines = part.lines.items; boxes = part.boxes.items }

  abbrev pub told_of : LaneTold M → Account M
  told_of told =
      record {
        faults = told.faults.items;
        removed = told.removed.items;
        back = told.back.items;
        stop = option_map room_of told.stop;
      }

  -- there is a box for each line that adds a method
  abbrev pub IsWhole : Part M → Type 0
  IsWhole part = count_adds part.lines ≤ length part.boxes

  -- the ids that lanes removed
  abbrev pub removed_ids : List (Account M) → List ℕ
  removed_ids accounts = flat_map (λ account. map (λ one. one.0) account.removed) accounts

  -- the k-th lane was played by caller k, after caller 0's entries, and nothing else was done
  -- under its token
  abbrev pub AreShares : (M → Fixed) → (M → Option (List ℕ)) → Limits → List Seen → List (Part M)
      → List (Account M) → Type 0
  AreShares keep heard caps history parts accounts =
      Numbered
      (λ number part account. LaneAfter keep heard (holder_at caps number) part.lines part.boxes
      account (own 0 history) history) 1 parts accounts
