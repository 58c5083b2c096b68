use Rattle.osc_hall.specs.Rounds.{AreLetIn}
use Rattle.osc_hall.proofs.hall.Hall.let_in.Given as goal

abbrev pub invariant-loop-comer : goal.invariant-loop-comer
invariant-loop-comer g l = AreLetIn g.V.Visitor.taken l.initial.self l._comer l.self
