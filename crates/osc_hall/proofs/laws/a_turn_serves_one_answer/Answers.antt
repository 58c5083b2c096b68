use Rattle.osc_hall.proofs.ServedTurns.{served_turn}
use Rattle.osc_hall.proofs.laws.a_turn_serves_one_answer.Goals as goal

pub returns : goal.returns
returns g c = served_turn g.V.Visitor.left g.V.Visitor.taken
