use Rattle.osc_life.specs.Holders.{seen_by, holder_of}
use Rattle.osc_lanes.specs.Ends.{told_in}
use Rattle.osc_lanes.proofs.Staying.{removed_later}
use Rattle.osc_lanes.proofs.laws.a_lane_keeps_its_share.Goals as goal

pub returns-clause-share : goal.returns-clause-share
returns-clause-share g c caps plan end history ready is on = (seen_by plan.caller, seen_by end.caller, ready.1, is.plays, on)

pub returns-clause-removed : goal.returns-clause-removed
returns-clause-removed g c caps plan end history is on legal =
    removed_later g.M.Method.keep g.M.Method.heard (holder_of caps plan.caller) c.a_method_is_called_while_it_is_registered.ensures.removed plan.lines.items
    plan.boxes.items (told_in end) (seen_by plan.caller) (seen_by end.caller) history is.plays on legal
