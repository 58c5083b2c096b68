use Rattle.std.proofs.Common.{None, arith}
use Rattle.osc_packet.proofs.Apart.{packets_same}
use Rattle.osc_packet.proofs.laws.texts_differ.Goals as goal

pub returns : goal.returns
returns c most one other few first second same =
    packets_same c.of_messages.ensures one other None None first.lawful second.lawful (omega (arith, first.short)) same
