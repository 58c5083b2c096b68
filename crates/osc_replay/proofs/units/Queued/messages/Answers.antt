use Rattle.std.proofs.Common.{length, ap, arith}
use Rattle.osc_packet.specs.Units.{TimedUnit}
use Rattle.osc_replay.proofs.Sizing.{messages_within}
use Rattle.osc_replay.proofs.units.Queued.messages.Goals as goal

pub returns-clause-few : goal.returns-clause-few
returns-clause-few c =
    omega (arith, messages_within c.self.inside.unit.messages, c.self.invariant.small, ap (λ (unit : TimedUnit). length unit.messages) c.self.view_is)
