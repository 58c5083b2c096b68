use Rattle.osc_hall.proofs.SeenOnce.{seen_then, seen_not}
use Rattle.osc_hall.proofs.guest.Guest.visits.Goals as goal

pub returns-then-hears : goal.returns-then-hears
returns-then-hears g c =
    seen_then g.V.Visitor.left g.V.Visitor.taken c.args.page.now c.args.state.now c.args.self.now c.stay_longer.new.self c.hears.new.self
    c.tells.new.self c.tells.result c.hears.result c.stay_longer.ensures c.hears.ensures c.if-hears.true c.tells.ensures

pub returns-else-hears : goal.returns-else-hears
returns-else-hears g c =
    seen_not g.V.Visitor.left g.V.Visitor.taken c.args.page.now c.args.state.now c.args.self.now c.stay_longer.new.self c.hears.new.self
    c.hears.result c.stay_longer.ensures c.hears.ensures c.if-hears.false
