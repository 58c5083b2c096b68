-- From when to when lines are shown. Moments are compared as lines show them, to the millisecond.
use Rattle.std.specs.Prelude.{ℕ, Bool, true, nat_le, Option, Some, None}
use Rattle.osc_shown.specs.Times.{millis_of}

-- a moment isn't before the first that is shown
abbrev pub is_from : Option ℕ → ℕ → Bool
is_from None moment = true
is_from (Some from) moment = nat_le (millis_of from) (millis_of moment)

-- it isn't after the last
abbrev pub is_to : Option ℕ → ℕ → Bool
is_to None moment = true
is_to (Some to) moment = nat_le (millis_of moment) (millis_of to)
