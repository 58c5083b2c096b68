use Rattle.std.proofs.Common.{◌≡◌, length}
use Rattle.osc_shown.specs.Places.{hits}
use Rattle.osc_shown.proofs.destination.split_hit.Given as goal

-- the routes that are left have the same hits
abbrev pub invariant-loop-route : goal.invariant-loop-route
invariant-loop-route l = hits l.pattern l.rest ≡ hits l.pattern l.routes

abbrev pub decreases-loop-route : goal.decreases-loop-route
decreases-loop-route l = length l.rest
