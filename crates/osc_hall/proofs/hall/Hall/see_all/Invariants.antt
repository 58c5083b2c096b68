use Rattle.osc_hall.proofs.SeenAll.{SeenSoFar}
use Rattle.osc_hall.proofs.hall.Hall.see_all.Given as goal

abbrev pub invariant-loop-one : goal.invariant-loop-one
invariant-loop-one g l = SeenSoFar g.V.Visitor.left g.V.Visitor.taken l.page l.state l.initial.self l._one l.self
