use Rattle.std.proofs.Common.{get_or, take, ap, arith}
use Rattle.std.specs.Option.{option_map}
use Rattle.osc_relay.specs.Outlets.{Takes}
use Rattle.osc_relay.proofs.EachOutlet.{none_so_far, so_far_more, all_changed}
use Rattle.osc_relay.proofs.outlets.send_each.Goals as goal

pub loop-outlet-init : goal.loop-outlet-init
loop-outlet-init g c =
    none_so_far (Takes g.O.Outlet.sent g.O.Outlet.losses g.O.Outlet.tries g.O.Outlet.mark (option_map (λ end. take end c.args.space.now) c.args.end)) c.args.outlets.now

pub loop-outlet-preserved : goal.loop-outlet-preserved
loop-outlet-preserved g c =
    let now = c.loop-outlet.outlets in
    let i = c.loop-outlet.outlet-index in
    so_far_more (Takes g.O.Outlet.sent g.O.Outlet.losses g.O.Outlet.tries g.O.Outlet.mark (option_map (λ end. take end c.args.space.now) c.args.end)) c.args.outlets.now now i
    (get_or now i c.outlet-item.result) c.send_to.new.outlet (omega arith) (ap (λ (d : g.row.O.Denot). get_or now i d) c.outlet-item.is)
    c.send_to.ensures c.loop-outlet.invariant

pub returns : goal.returns
returns g c =
    all_changed (Takes g.O.Outlet.sent g.O.Outlet.losses g.O.Outlet.tries g.O.Outlet.mark (option_map (λ end. take end c.args.space.now) c.args.end)) c.args.outlets.now
    c.loop-outlet.outlets c.loop-outlet.outlet-index (omega arith) c.loop-outlet.invariant
