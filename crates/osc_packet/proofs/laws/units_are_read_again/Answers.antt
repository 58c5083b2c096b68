use Rattle.std.proofs.Common.{arith}
use Rattle.osc_packet.proofs.Again.{units_again}
use Rattle.osc_packet.proofs.laws.units_are_read_again.Goals as goal

pub returns : goal.returns
returns c most packet few valid = units_again c.of_messages.ensures packet valid.shallow valid.lawful (omega (arith, valid.short))
