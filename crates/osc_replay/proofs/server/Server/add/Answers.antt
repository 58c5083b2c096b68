use Rattle.std.proofs.Common.{ap, subst}
use Rattle.osc_tree.specs.Registry.{Registry}
use Rattle.osc_tree.specs.Adding.{refusal_of}
use Rattle.osc_model.specs.State.{State}
use Rattle.osc_model.specs.Events.{add}
use Rattle.osc_replay.specs.Playing.{Decides}
use Rattle.osc_replay.proofs.Entering.{server_state, add_refuses}
use Rattle.osc_replay.proofs.server.Server.add.Goals as goal

pub returns-in-Some : goal.returns-in-Some
returns-in-Some c =
    let s = c.self.inside in
    let with : Registry → State = λ tree.
    server_state tree s.queue s.blocks s.clock s.next_id s.next_unit s.callers s.caller_limit s.recorded s.record_limit s.late in
    subst (λ (old : State). Decides c.from.result old (add c.args.address.now) (with c.add_to.new.tree)) c.self.view_is
    (add_refuses (with s.tree) (with c.add_to.new.tree) c.in_ok-address.address c.args.address.now c.from.result
    (refusal_of c.in-Some.refusal) c.in_ok-address.ensures c.in-Some.ensures.refusal c.from.ensures.value c.from.ensures.whole
    (ap with c.in-Some.ensures.unchanged))
