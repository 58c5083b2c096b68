use Rattle.std.specs.Vec.Iter.{into_iter_items}
use Rattle.osc_lanes.proofs.Answering.{answered_by, pumped_by, pumped_holder, pumped_made}
use Rattle.osc_lanes.proofs.Telling.{played_add, played_remove, played_bytes, played_tick, played_pump}
use Rattle.osc_lanes.proofs.acts.play_line.Goals as goal

pub returns-in_ok-keep_refused-in-Add-clause-played : goal.returns-in_ok-keep_refused-in-Add-clause-played
returns-in_ok-keep_refused-in-Add-clause-played g c =
    let add = c.add-caller.ensures in
    rw c.in-Add.is
    (played_add g.M.Method.keep g.M.Method.heard _ _ _ _ _ _ _ _ _ c.in-Add.address c.in-Some.method _ _ c.add-caller.result.1 c.stop-lane.result
    c.in-Some.ensures.cases.0 (answered_by c.args.live.now.caps c.args.caller c.add-caller.result.0 _ _ add.call) add.marked add.handed_back
    c.stop-lane.ensures c.in_ok-keep_refused-in-Add.ensures)

pub returns-in_ok-keep_removed-in-Remove-clause-played : goal.returns-in_ok-keep_removed-in-Remove-clause-played
returns-in_ok-keep_removed-in-Remove-clause-played g c =
    let remove = c.remove-caller.ensures in
    rw c.in-Remove.is
    (played_remove g.M.Method.keep g.M.Method.heard _ _ _ _ _ _ _ _ _ c.in-Remove.address _ c.remove-caller.result.1 c.stop-lane-in-Remove.result
    (answered_by c.args.live.now.caps c.args.caller c.remove-caller.result.0 _ _ remove.call) remove.marked remove.heard
    c.stop-lane-in-Remove.ensures c.in_ok-keep_removed-in-Remove.ensures)

pub returns-in_ok-caller-in-Send-clause-played : goal.returns-in_ok-caller-in-Send-clause-played
returns-in_ok-caller-in-Send-clause-played g c =
    let told = c.args.lane.now.told in
    let played = c.in_ok-caller-in-Send.ensures.played (into_iter_items c.args.lane.now.boxes) told.back.items told.removed.items in
    rw c.in-Send.is
    (played_bytes g.M.Method.keep g.M.Method.heard _ _ _ _ _ _ _ _ _ c.in-Send.bytes _ _ _ _ c.as_slice-bytes.ensures c.report_answer-lane.ensures played)

pub returns-in-Tick-clause-played : goal.returns-in-Tick-clause-played
returns-in-Tick-clause-played g c =
    rw c.in-Tick.is
    (played_tick g.M.Method.keep g.M.Method.heard _ _ _ _ _ _ _ _ _ c.in-Tick.moment _ c.stop-lane-in-Tick.result
    (answered_by c.args.live.now.caps c.args.caller c.tick-caller.result.0 _ _ c.tick-caller.ensures.call) c.stop-lane-in-Tick.ensures)

pub returns-in-Pump-clause-holder : goal.returns-in-Pump-clause-holder
returns-in-Pump-clause-holder g c =
    pumped_holder c.args.live.now.caps c.args.caller c.pump-caller.result.0 c.pump-caller.result.1 c.pump-caller.ensures.number c.pump-caller.ensures.calls

pub returns-in-Pump-clause-made : goal.returns-in-Pump-clause-made
returns-in-Pump-clause-made g c =
    pumped_made c.args.live.now.caps c.args.caller c.pump-caller.result.0 c.pump-caller.result.1 c.pump-caller.ensures.calls

pub returns-in-Pump-clause-played : goal.returns-in-Pump-clause-played
returns-in-Pump-clause-played g c =
    let pumped = pumped_by c.args.live.now.caps c.args.caller c.pump-caller.result.0 c.pump-caller.result.1 c.pump-caller.ensures.calls in
    rw c.in-Pump.is
    (played_pump g.M.Method.keep g.M.Method.heard _ _ _ _ _ _ _ _ _ c.pump-caller.result.1.released pumped.0 c.pump-caller.result.1.end
    c.stop-lane-in-Pump.result pumped.1 pumped.2 c.stop-lane-in-Pump.ensures)
