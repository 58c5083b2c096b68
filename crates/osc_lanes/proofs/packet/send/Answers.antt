use Rattle.std.proofs.Common.{None, List, ℕ, refl, sym, subst}
use Rattle.osc_model.specs.Events.{submit}
use Rattle.osc_core.specs.Answers.{submitted_of}
use Rattle.osc_life.specs.Holders.{seen_by, holder_of}
use Rattle.osc_lanes.specs.Shares.{Answered}
use Rattle.osc_lanes.proofs.Answering.{answered_by}
use Rattle.osc_lanes.proofs.Telling.{played_send, played_fault}
use Rattle.osc_lanes.proofs.packet.send.Goals as goal

pub returns-in-Ok-clause-played : goal.returns-in-Ok-clause-played
returns-in-Ok-clause-played g c boxes back removed =
    played_send g.M.Method.keep g.M.Method.heard _ _ boxes c.args.faults.now.items removed back None _ _ c.args.bytes.now c.args.bytes.now c.in-Ok.packet _
    refl c.in-Ok.ensures.fault_read c.in-Ok.ensures.ok
    (answered_by c.args.live.now.caps c.args.caller c.submit_clocked-caller.result.0 _ _ c.submit_clocked-caller.ensures.call)

pub returns-in-Ok-clause-answered : goal.returns-in-Ok-clause-answered
returns-in-Ok-clause-answered g c = (
  sym c.in-Ok.ensures.fault_read,
  subst (λ (l : List ℕ). Answered (holder_of c.args.live.now.caps c.args.caller) (submit l) (submitted_of c.submit_clocked-caller.result.1.answer)
      (seen_by c.args.caller) (seen_by c.submit_clocked-caller.result.0)) c.in-Ok.ensures.ok
      (answered_by c.args.live.now.caps c.args.caller c.submit_clocked-caller.result.0 _ _ c.submit_clocked-caller.ensures.call),
  c.submit_clocked-caller.ensures.clock,
)

pub returns-in_ok-push-in-Err-clause-answered : goal.returns-in_ok-push-in-Err-clause-answered
returns-in_ok-push-in-Err-clause-answered g c = (c.in-Err.fault, sym c.in-Err.ensures.fault_read, refl)

pub returns-in_ok-push-in-Err-clause-played : goal.returns-in_ok-push-in-Err-clause-played
returns-in_ok-push-in-Err-clause-played g c boxes back removed =
    played_fault g.M.Method.keep g.M.Method.heard _ _ boxes c.args.faults.now.items removed back None _ _ c.args.bytes.now c.args.bytes.now c.in-Err.fault _
    refl c.in-Err.ensures.fault_read refl c.in_ok-push-in-Err.ensures.items
