-- What a lane's end has to do with its plan.
use Rattle.std.specs.Prelude.{◌≡◌, ℕ, List, [], Option}
use Rattle.std.specs.Option.{option_map}
use Rattle.osc_method.specs.Heard.{Fixed}
use Rattle.osc_model.specs.Limits.{Limits}
use Rattle.osc_record.specs.Shown.{room_of}
use Rattle.osc_turn.specs.History.{own}
use Rattle.osc_turn.specs.Rule.{number_of}
use Rattle.osc_turn.specs.Passes.{view}
use Rattle.osc_lanes.specs.declared.plan.LanePlan.{LanePlan}
use Rattle.osc_lanes.specs.declared.plan.LaneEnd.{LaneEnd}
use Rattle.osc_lanes.specs.Performs.{Part, IsWhole}
use Rattle.osc_life.specs.Holders.{seen_by, holder_of}
use Rattle.osc_lanes.specs.Shares.{Account, Plays}

module _ {M : Type 0} where
  abbrev pub part_in : LanePlan M → Part M
  part_in plan = record { lines = plan.lines.items; boxes = plan.boxes.items }

  abbrev pub told_in : LaneEnd M → Account M
  told_in end =
      record {
        faults = end.faults.items;
        removed = end.removed.items;
        back = end.back.items;
        stop = option_map room_of end.stop;
      }

  -- there is a box for each line that adds a method, and the token has no entries yet
  abbrev pub IsReady : LanePlan M → Type 0
  IsReady plan = IsWhole (part_in plan)
      × (own (number_of (view plan.caller.pass)) (seen_by plan.caller) ≡ [])

  -- The plan's caller comes back with its token, which made none, and the lines were played between
  -- what it had seen and what it has seen then.
  pub record IsEndOf (keep : M → Fixed) (heard : M → Option (List ℕ)) (caps : Limits)
      (plan : LanePlan M) (end : LaneEnd M) : Type 0 where
    pub lane : end.lane ≡ plan.lane
    pub holder : holder_of caps end.caller ≡ holder_of caps plan.caller
    pub made : (view end.caller.pass).made ≡ (view plan.caller.pass).made
    pub plays : Plays keep heard (holder_of caps plan.caller) plan.lines.items plan.boxes.items
        (told_in end) (seen_by plan.caller) (seen_by end.caller)
