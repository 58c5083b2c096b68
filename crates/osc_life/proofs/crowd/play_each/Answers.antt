use Rattle.std.proofs.Common.{◌≡◌, length, arith}
use Rattle.std.specs.List.{AllZip}
use Rattle.osc_live.specs.Seen.{IsTokenOf}
use Rattle.osc_life.specs.Works.{IsDone}
use Rattle.osc_life.proofs.Zipping.{zipped_jobs, all_of_zip, weaker_zip}
use Rattle.osc_life.proofs.crowd.play_each.Goals as goal
use Rattle.osc_life.proofs.crowd.play_each.Goals.{In_ok-all}

-- each end is one of its job, and its token is one of the server's
each_end : (g : _) (c : In_ok-all g)
    → AllZip
    (λ job done. IsTokenOf c.args.desk.now.live.now.turn c.args.desk.now.live.now.caps done.caller.pass × IsDone g.P.Worker.plays c.args.desk.now.live.now.caps job done)
    c.args.jobs.items c.in_ok-all.all.items
each_end g c =
    let long : length c.in_ok-ends.ends.items ≡ length c.args.jobs.items =
    omega (arith, c.in_ok-ends.ensures.len, c.in_ok-ends.ends.ok.0, c.args.jobs.ok.0) in
    zipped_jobs _ c.args.jobs.items c.in_ok-ends.ends.items c.in_ok-all.all.items c.in_ok-all.ensures long
    (λ i d h. let k = (c.in_ok-ends.ensures.each i d h).1 in (k.job, k.job_is, k.call.met))

pub returns-clause-done : goal.returns-clause-done
returns-clause-done g c =
    weaker_zip _ (IsDone g.P.Worker.plays c.args.desk.now.live.now.caps) (λ job done p. p.1) _ _ (each_end g (goal.at.returns-clause-done g c).In_ok-all)

pub returns-clause-ours : goal.returns-clause-ours
returns-clause-ours g c =
    all_of_zip _ (λ done. IsTokenOf c.args.desk.now.live.now.turn c.args.desk.now.live.now.caps done.caller.pass) (λ job done p. p.0) _ _
    (each_end g (goal.at.returns-clause-ours g c).In_ok-all)
