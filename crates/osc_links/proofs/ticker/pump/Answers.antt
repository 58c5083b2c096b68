use Rattle.std.proofs.Common.{[], None}
use Rattle.osc_lanes.proofs.Answering.{pumped_by, pumped_holder}
use Rattle.osc_lanes.proofs.Telling.{played_pump}
use Rattle.osc_links.proofs.Tickings.{keeps_pump}
use Rattle.osc_links.proofs.ticker.pump.Goals as goal

pub returns-clause-played : goal.returns-clause-played
returns-clause-played g c =
    let pumped = pumped_by c.args.live.now.caps c.args.caller c.pump-caller.result.0 c.pump-caller.result.1 c.pump-caller.ensures.calls in
    played_pump g.M.Method.keep g.M.Method.heard _ _ [] [] [] [] None _ _ c.pump-caller.result.1.released pumped.0 c.pump-caller.result.1.end
    c.stop.result pumped.1 pumped.2 c.stop.ensures

pub returns-clause-holder : goal.returns-clause-holder
returns-clause-holder g c =
    pumped_holder c.args.live.now.caps c.args.caller c.pump-caller.result.0 c.pump-caller.result.1 c.pump-caller.ensures.number c.pump-caller.ensures.calls

pub returns-clause-keeps : goal.returns-clause-keeps
returns-clause-keeps g c = keeps_pump _ _ _ _ _ c.pump-caller.ensures.calls
