use Rattle.std.proofs.Common.{[], None}
use Rattle.osc_lanes.proofs.Answering.{answered_by}
use Rattle.osc_lanes.proofs.Telling.{played_tick}
use Rattle.osc_links.proofs.Tickings.{keeps_call}
use Rattle.osc_links.proofs.ticker.tick.Goals as goal

pub returns-clause-played : goal.returns-clause-played
returns-clause-played g c =
    played_tick g.M.Method.keep g.M.Method.heard _ _ [] [] [] [] None _ _ c.args.moment _ c.stop.result
    (answered_by c.args.live.now.caps c.args.caller c.tick-caller.result.0 _ _ c.tick-caller.ensures.call) c.stop.ensures

pub returns-clause-keeps : goal.returns-clause-keeps
returns-clause-keeps g c = keeps_call _ _ _ _ _ _ c.tick-caller.ensures.call
