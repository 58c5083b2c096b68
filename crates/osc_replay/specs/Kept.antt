-- Inside the crate: what is kept of a queued unit.
use Rattle.osc_packet.specs.declared.limits.TheConstants.{MAX_STORED}
use Rattle.std.specs.Prelude.{◌≡◌, ℕ, ◌≤◌}
use Rattle.osc_packet.specs.Units.{TimedUnit, stored_size, blocks}

-- its messages are no more than a packet has, and so many blocks hold them
pub record IsKept (unit : TimedUnit) (count : ℕ) : Type 0 where
  pub small : stored_size unit.messages ≤ MAX_STORED
  pub counted : count ≡ blocks unit
