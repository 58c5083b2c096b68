use Rattle.std.proofs.Common.{subst}
use Rattle.osc_model.specs.Limits.{Limits}
use Rattle.osc_core.specs.Telling.{told}
use Rattle.osc_uses.specs.declared.live_server.LiveRun.{LiveRun}
use Rattle.osc_uses.specs.Live.{AreOneHistory}
use Rattle.osc_uses.proofs.Gathered.{gathered}
use Rattle.osc_uses.proofs.live_server.live_run.Goals as goal

pub returns-clause-one_history : goal.returns-clause-one_history
returns-clause-one_history g c =
    let opened = c.in_ok-live.ensures in
    let met = c.three_at_once-visit.ensures in
    let visit = c.three_at_once-visit.result.0 in
    let sending = c.three_at_once-visit.result.1.0 in
    let clocked = c.three_at_once-visit.result.1.1 in
    let closed = c.in_ok-closed.closed in
    let kept = told g.M.Method.keep g.M.Method.heard closed.kept.items in
    let run : LiveRun g.row.M.Denot = record {
      added = visit.added;
      removed = visit.removed;
      sent = sending.sent;
      ticked = clocked.ticked;
      pumped = clocked.pumped;
      closed = closed;
    } in
    subst (λ (caps : Limits). AreOneHistory {M = g.row.M.Denot} caps c.args.placed.address c.args.bytes.now c.args.moment run kept) opened.limits
    (gathered c.in_ok-live.live.caps c.args.placed.address c.args.bytes.now c.args.moment run kept c.in_ok-live.callers visit.caller sending.caller
    clocked.caller opened.first opened.enrolled opened.second_new opened.third_new met.second_number met.third_number met.comes met.sends met.ticks
    c.in_ok-closed.ensures.closes)
