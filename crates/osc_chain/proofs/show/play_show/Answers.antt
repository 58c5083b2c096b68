use Rattle.std.proofs.Common.{◌≡◌, Some, rules}
use Rattle.osc_chain.proofs.Growing.{fault_over, fixed_of, heard_of, loop_on, loop_over}
use Rattle.osc_chain.proofs.show.play_show.Goals as goal

pub loop-preserved : goal.loop-preserved
loop-preserved g c =
    let is : c.loop.left ≡ Some c.unwrap.result = search rules in (
      tt,
      tt,
      loop_on fixed_of heard_of g.L.Link.left g.L.Link.faults g.O.Outlet.sent g.O.Outlet.losses c.args.stage c.unwrap.result c.in-GoesOn.next c.loop.left
          c.loop.invariant.2 is c.in_ok-next.field-0 c.in_ok-next.ensures c.in-GoesOn.is,
    )

pub returns-in-Over : goal.returns-in-Over
returns-in-Over g c =
    let is : c.loop.left ≡ Some c.unwrap.result = search rules in
    record {
      show = loop_over fixed_of heard_of g.L.Link.left g.L.Link.faults g.O.Outlet.sent g.O.Outlet.losses c.a_show_is_a_chain.ensures c.args.stage
          c.unwrap.result c.loop.left c.loop.invariant.2 is c.in_ok-next.field-0 c.in-Over.end c.in_ok-next.ensures c.in-Over.is;
      fault = fault_over fixed_of heard_of g.L.Link.left g.L.Link.faults g.O.Outlet.sent g.O.Outlet.losses c.args.stage c.unwrap.result c.loop.left
          c.loop.invariant.2 is c.in_ok-next.field-0 c.in-Over.end c.in_ok-next.ensures c.in-Over.is;
    }
