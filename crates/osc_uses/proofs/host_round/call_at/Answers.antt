use Rattle.osc_core.specs.Invoked.{shown, calls_left, last_calls}
use Rattle.osc_uses.proofs.LastCalls.{at_place}
use Rattle.osc_uses.proofs.host_round.call_at.Goals as goal

pub returns : goal.returns
returns g c =
    at_place shown c.next.result c.args.place (last_calls c.args.core.now.performance) (calls_left c.calls_from.result) (calls_left c.next.new.self)
    c.next.ensures.steps c.calls_from.ensures
