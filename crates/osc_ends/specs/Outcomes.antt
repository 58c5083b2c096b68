-- How what was played ended.
use Rattle.std.specs.Prelude.{ℕ, Option, Some, None}
use Rattle.osc_model.specs.Events.{Room}
use Rattle.osc_ends.specs.declared.outcome.Outcome.{Outcome}
use Rattle.osc_ends.specs.declared.outcome.Outcome.TheVariants.{Done, Full, LinkFailed, ClockFailed}
use Rattle.osc_ends.specs.declared.status.TheConstants.{DONE, EDGE_FAILED, RECORDING_FULL}

-- all was played, or an event wanted more room than was left
abbrev pub stopped : Option Room → Outcome
stopped None = Done
stopped (Some room) = Full room.need room.free

-- the status, where all was written
abbrev pub status_of : Outcome → ℕ
status_of Done = DONE
status_of (Full need free) = RECORDING_FULL
status_of (LinkFailed link) = EDGE_FAILED
status_of ClockFailed = EDGE_FAILED
