use Rattle.std.proofs.Common.{take}
use Rattle.std.specs.Option.{option_map}
use Rattle.osc_relay.specs.Outlets.{Takes}
use Rattle.osc_relay.proofs.EachOutlet.{IsSoFar}
use Rattle.osc_relay.proofs.outlets.send_each.Given as goal

abbrev pub invariant-loop-outlet : goal.invariant-loop-outlet
invariant-loop-outlet g l =
    IsSoFar (Takes g.O.Outlet.sent g.O.Outlet.losses g.O.Outlet.tries g.O.Outlet.mark (option_map (λ end. take end l.space) l.end)) l.fn.outlets l.outlet-index l.outlets
