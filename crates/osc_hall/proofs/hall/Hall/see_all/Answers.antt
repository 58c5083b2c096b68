use Rattle.std.proofs.Common.{ap, arith, length}
use Rattle.osc_hall.proofs.SeenAll.{one_more_seen, all_seen, no_more}
use Rattle.osc_hall.proofs.hall.Hall.see_all.Goals as goal

pub loop-one-preserved : goal.loop-one-preserved
loop-one-preserved g c =
    one_more_seen g.V.Visitor.left g.V.Visitor.taken c.args.page.now c.args.state.now c.args.self.now c.loop-one.self c.see_first.new.self
    c.loop-one._one c.loop-one.invariant
    (omega (arith, c.loop-one-test.true, c.len-one-end.ensures, c.self.inside.guests.ok.0, ap length c.self.view_is)) c.see_first.ensures

pub returns-clause-seen : goal.returns-clause-seen
returns-clause-seen g c =
    all_seen g.V.Visitor.left g.V.Visitor.taken c.args.page.now c.args.state.now c.args.self.now c.loop-one.self c.loop-one._one
    c.loop-one.invariant
    (omega (
      arith,
      c.loop-one-test.false,
      c.loop-one.auto._one-end,
      c.len-one-end.ensures,
      c.self.inside.guests.ok.0,
      ap length c.self.view_is,
    ))

pub returns-clause-few : goal.returns-clause-few
returns-clause-few g c =
    omega (
      arith,
      no_more g.V.Visitor.left g.V.Visitor.taken c.args.page.now c.args.state.now c.args.self.now c.loop-one.self
          (returns-clause-seen g c),
      c.self.inside.guests.ok.0,
      ap length c.self.view_is,
      c.self.invariant.0,
    )
