use Rattle.std.proofs.Common.{◌≡◌, length, arith}
use Rattle.std.specs.List.{AllZip, AllByRecursion}
use Rattle.osc_live.specs.Seen.{IsTokenOf}
use Rattle.osc_lanes.specs.declared.plan.LanePlan.{LanePlan}
use Rattle.osc_lanes.specs.declared.plan.LaneEnd.{LaneEnd}
use Rattle.osc_life.specs.Holders.{seen_by, holder_of}
use Rattle.osc_lanes.specs.Ends.{told_in, IsEndOf}
use Rattle.osc_lanes.specs.Shares.{IsRemovedAt}
use Rattle.osc_lanes.proofs.Staying.{removed_then}
use Rattle.osc_life.proofs.Zipping.{zipped_jobs, all_of_zip, weaker_zip}
use Rattle.osc_lanes.proofs.lanes.play.Goals as goal
use Rattle.osc_lanes.proofs.lanes.play.Goals.{In_ok-all}

-- each end is one of its plan, and its token is one of the server's
each_end : (g : _) (c : In_ok-all g)
    → AllZip
    (λ (plan : LanePlan g.row.M.Denot) (end : LaneEnd g.row.M.Denot). IsTokenOf c.args.live.now.turn c.args.live.now.caps end.caller.pass
    × IsEndOf g.M.Method.keep g.M.Method.heard c.args.live.now.caps plan end) c.args.plans.items c.in_ok-all.all.items
each_end g c =
    let long : length c.in_ok-ends.ends.items ≡ length c.args.plans.items =
    omega (arith, c.in_ok-ends.ensures.len, c.in_ok-ends.ends.ok.0, c.args.plans.ok.0) in
    zipped_jobs _ c.args.plans.items c.in_ok-ends.ends.items c.in_ok-all.all.items c.in_ok-all.ensures long
    (λ i d h. let k = (c.in_ok-ends.ensures.each i d h).1 in (k.job, k.job_is, k.call.met))

pub returns-clause-ends : goal.returns-clause-ends
returns-clause-ends g c =
    weaker_zip _ (IsEndOf g.M.Method.keep g.M.Method.heard c.args.live.now.caps) (λ plan end p. p.1) _ _
    (each_end g (goal.at.returns-clause-ends g c).In_ok-all)

pub returns-clause-ours : goal.returns-clause-ours
returns-clause-ours g c =
    all_of_zip _ (λ end. IsTokenOf c.args.live.now.turn c.args.live.now.caps end.caller.pass) (λ plan end p. p.0) _ _
    (each_end g (goal.at.returns-clause-ours g c).In_ok-all)

pub returns-clause-removed : goal.returns-clause-removed
returns-clause-removed g c =
    let keep = g.M.Method.keep in
    let heard = g.M.Method.heard in
    let caps = c.args.live.now.caps in
    all_of_zip _ (λ end. AllByRecursion (IsRemovedAt keep heard caps (seen_by end.caller)) end.removed.items)
    (λ plan end p. removed_then keep heard (holder_of caps plan.caller) c.a_method_is_called_while_it_is_registered.ensures.removed plan.lines.items plan.boxes.items
    (told_in end) (seen_by plan.caller) (seen_by end.caller) p.1.plays) _ _
    (each_end g (goal.at.returns-clause-removed g c).In_ok-all)
