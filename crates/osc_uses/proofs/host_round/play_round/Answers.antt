use Rattle.osc_uses.proofs.LastCalls.{released_calls}
use Rattle.osc_uses.proofs.host_round.play_round.Goals as goal

pub returns-clause-calls : goal.returns-clause-calls
returns-clause-calls g c =
    released_calls c.release-released.result c.args.core.now.performance c.release-released.new.self.performance c.release-released.ensures.answer
    c.release-released.ensures.performance
