use Rattle.std.proofs.Common.{Some, subst}
use Rattle.osc_model.specs.State.{State}
use Rattle.osc_model.specs.Releases.{IsLeastDue}
use Rattle.osc_core.proofs.server.Server.due.Goals as goal

pub returns : goal.returns
returns c = subst (λ (state : State). IsLeastDue state.queue (Some c.in_ok-due.due)) c.self.view_is c.in_ok-due.ensures.least
