use Rattle.std.proofs.Common.{◌≤◌, length, ap, ◌∙◌, subst, arith, List, ℕ}
use Rattle.osc_packet.specs.Reading.{units_read}
use Rattle.osc_packet.proofs.Few.{units_few}
use Rattle.osc_packet.proofs.packet.Packet.units.Goals as goal

pub returns-clause-few : goal.returns-clause-few
returns-clause-few c = subst (λ (l : List ℕ). length (units_read l) ≤ 65504) c.self.view_is (units_few c.self.inside.bytes.now c.self.invariant)

pub returns-clause-written : goal.returns-clause-written
returns-clause-written c packet valid same =
    c.new.ensures ∙ ap units_read (c.self.view_is ∙ same) ∙ c.units_are_read_again.ensures 65504 packet (omega arith) valid
