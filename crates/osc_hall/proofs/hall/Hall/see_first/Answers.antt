use Rattle.std.proofs.Common.{sym, ◌∙◌}
use Rattle.osc_hall.proofs.SeenAll.{first_stays, first_goes}
use Rattle.osc_hall.proofs.hall.Hall.see_first.Goals as goal

pub returns-then-stays : goal.returns-then-stays
returns-then-stays g c =
    first_stays g.V.Visitor.left g.V.Visitor.taken c.args.page.now c.args.state.now c.args.self.now c.pop_front.new.self.items
    c.push_back_reserved.new.self.items c.in-Some.guest c.stays.new.self c.stays.result (sym c.self.view_is ∙ c.in-Some.ensures.items)
    c.stays.ensures c.if-stays.true c.push_back_reserved.ensures.items

pub returns-else-stays : goal.returns-else-stays
returns-else-stays g c =
    first_goes g.V.Visitor.left g.V.Visitor.taken c.args.page.now c.args.state.now c.args.self.now c.pop_front.new.self.items c.in-Some.guest
    c.stays.new.self c.stays.result (sym c.self.view_is ∙ c.in-Some.ensures.items) c.stays.ensures c.if-stays.false
