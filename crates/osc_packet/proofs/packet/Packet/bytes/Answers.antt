use Rattle.std.proofs.Common.{◌≤◌, length, subst, List, ℕ}
use Rattle.osc_packet.specs.Reading.{units_read}
use Rattle.osc_packet.proofs.Few.{units_few}
use Rattle.osc_packet.proofs.packet.Packet.bytes.Goals as goal

pub returns-clause-few : goal.returns-clause-few
returns-clause-few c = subst (λ (l : List ℕ). length (units_read l) ≤ 65504) c.self.view_is (units_few c.self.inside.bytes.now c.self.invariant)
