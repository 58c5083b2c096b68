use Rattle.std.proofs.Common.{get_or, ap, arith}
use Rattle.osc_relay.specs.Outlets.{IsReset}
use Rattle.osc_relay.proofs.EachOutlet.{none_so_far, so_far_more, all_changed}
use Rattle.osc_relay.proofs.outlets.reset_each.Goals as goal

pub loop-outlet-init : goal.loop-outlet-init
loop-outlet-init g c = none_so_far (IsReset g.O.Outlet.sent g.O.Outlet.losses g.O.Outlet.tries g.O.Outlet.mark) c.args.outlets.now

pub loop-outlet-preserved : goal.loop-outlet-preserved
loop-outlet-preserved g c =
    let now = c.loop-outlet.outlets in
    let i = c.loop-outlet.outlet-index in
    so_far_more (IsReset g.O.Outlet.sent g.O.Outlet.losses g.O.Outlet.tries g.O.Outlet.mark) c.args.outlets.now now i (get_or now i c.outlet-item.result) c.reset.new.self (omega arith)
    (ap (λ (d : g.row.O.Denot). get_or now i d) c.outlet-item.is)
    (record { none_sent = c.reset.ensures.sent; none_lost = c.reset.ensures.losses; same_tries = c.reset.ensures.tries; same_mark = c.reset.ensures.mark }) c.loop-outlet.invariant

pub returns : goal.returns
returns g c =
    all_changed (IsReset g.O.Outlet.sent g.O.Outlet.losses g.O.Outlet.tries g.O.Outlet.mark) c.args.outlets.now c.loop-outlet.outlets c.loop-outlet.outlet-index (omega arith)
    c.loop-outlet.invariant
