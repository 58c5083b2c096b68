use Rattle.std.proofs.Common.{[], None, Some}
use Rattle.osc_life.specs.Holders.{holder_of}
use Rattle.osc_links.proofs.Turning.{sent_so}
use Rattle.osc_links.proofs.link_worker.take_turn.Goals as goal

pub returns-in-None-clause-takes : goal.returns-in-None-clause-takes
returns-in-None-clause-takes g c = (
  c.in-Got.ensures.cause,
  _,
  c.in-Got.ensures.turns,
  sent_so g.M.Method.keep g.M.Method.heard (holder_of c.args.live.now.caps c.args.opened.caller) c.args.number _ _ _ _ c.report_answer-stop.result None _ _
      c.report_answer-stop.ensures c.in-None.is
      (c.in_ok-caller-in-Got.ensures.played [] [] []),
)

pub returns-in-Some-clause-takes : goal.returns-in-Some-clause-takes
returns-in-Some-clause-takes g c = (
  c.in-Got.ensures.cause,
  _,
  c.in-Got.ensures.turns,
  sent_so g.M.Method.keep g.M.Method.heard (holder_of c.args.live.now.caps c.args.opened.caller) c.args.number _ _ _ _ c.report_answer-stop.result
      (Some c.in-Some.room) _ _ c.report_answer-stop.ensures c.in-Some.is
      (c.in_ok-caller-in-Got.ensures.played [] [] []),
)
