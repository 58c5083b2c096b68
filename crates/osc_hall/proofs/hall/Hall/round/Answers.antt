use Rattle.osc_hall.specs.declared.limits.TheConstants.{COMERS}
use Rattle.osc_hall.proofs.SeenAll.{few_more}
use Rattle.osc_hall.proofs.hall.Hall.round.Goals as goal

pub returns-clause-comers : goal.returns-clause-comers
returns-clause-comers g c =
    few_more g.V.Visitor.left g.V.Visitor.taken c.args.page.now c.args.state.now c.args.self.now c.let_in.new.self c.see_all.new.self COMERS
    c.let_in.ensures c.see_all.ensures.seen
