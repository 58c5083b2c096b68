use Rattle.osc_relay.specs.Outlets.{IsReset}
use Rattle.osc_relay.proofs.EachOutlet.{IsSoFar}
use Rattle.osc_relay.proofs.outlets.reset_each.Given as goal

abbrev pub invariant-loop-outlet : goal.invariant-loop-outlet
invariant-loop-outlet g l = IsSoFar (IsReset g.O.Outlet.sent g.O.Outlet.losses g.O.Outlet.tries g.O.Outlet.mark) l.fn.outlets l.outlet-index l.outlets
