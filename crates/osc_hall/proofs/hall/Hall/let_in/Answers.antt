use Rattle.osc_hall.proofs.SeenAll.{one_more_let_in}
use Rattle.osc_hall.proofs.hall.Hall.let_in.Goals as goal

pub loop-comer-preserved : goal.loop-comer-preserved
loop-comer-preserved g c =
    one_more_let_in g.V.Visitor.taken c.args.self.now c.loop-comer.self c.enter.new.self c.loop-comer._comer c.in-Came.visitor
    c.loop-comer.invariant c.in-Came.ensures.fresh c.enter.ensures
