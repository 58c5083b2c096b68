use Rattle.osc_hall.proofs.HeardTurns.{heard_turn}
use Rattle.osc_hall.proofs.laws.a_turn_hears_what_is_said.Goals as goal

pub returns : goal.returns
returns g c = heard_turn g.V.Visitor.left g.V.Visitor.taken
