use Rattle.osc_hall.proofs.ServedTurns.{served_round}
use Rattle.osc_hall.proofs.laws.a_round_serves_one_answer_each.Goals as goal

pub returns : goal.returns
returns g c = served_round g.V.Visitor.left g.V.Visitor.taken
