-- Who looks holds the same token.
use Rattle.std.proofs.Common.{◌≡◌, ap}
use Rattle.osc_model.specs.Limits.{Limits}
use Rattle.osc_turn.specs.declared.view.View.{View}
use Rattle.osc_turn.specs.Rule.{number_of}
use Rattle.osc_turn.specs.Passes.{view}
use Rattle.osc_live.specs.declared.caller.Caller.{Caller}
use Rattle.osc_life.specs.Holders.{Stays, holder_of}
use Rattle.osc_live.specs.Looks.{HasLooked}

pub looks_holder : (caps : Limits) (caller after : Caller) → after.number ≡ caller.number → HasLooked (view caller.pass) (view after.pass)
    → holder_of caps after ≡ holder_of caps caller
looks_holder caps caller after number looks = λ i. record { caps = caps; token = ap number_of looks.same i; caller = number i }

pub looks_made : (v w : View) → HasLooked v w → w.made ≡ v.made
looks_made v w looks = ap (λ (z : View). z.made) looks.same

-- who has looked has not done anything
pub looks_stay : (v w : View) → HasLooked v w → Stays v w
looks_stay v w looks = record { token = ap number_of looks.same; starts = looks.goes_on; own_same = looks.own_same }
