-- The answers that change nothing but the recording.
use Rattle.osc_model.specs.Events.{Answer, callers_full, units_full, pool_full, refused, not_there}
use Rattle.osc_model.specs.Events.{clock_back, nothing_due, record_full}

-- an event that is refused, or a release that finds nothing due
abbrev pub IsRefusal : Answer → Type 0
IsRefusal callers_full = Unit {0}
IsRefusal (units_full room) = Unit {0}
IsRefusal (pool_full room) = Unit {0}
IsRefusal (refused refusal) = Unit {0}
IsRefusal not_there = Unit {0}
IsRefusal (clock_back clock) = Unit {0}
IsRefusal (nothing_due next) = Unit {0}
IsRefusal (record_full room) = Unit {0}
IsRefusal _ = ⊥
