use Rattle.osc_packet.proofs.Whole.{told_first, fault_again, none_packet, packet_none}
use Rattle.osc_packet.proofs.Chains.{one_fault}
use Rattle.osc_packet.proofs.Found.{packet_found}
use Rattle.osc_packet.proofs.Silent.{valid_silent}
use Rattle.osc_packet.proofs.laws.faults_are_first.Goals as goal

pub returns-clause-none : goal.returns-clause-none
returns-clause-none c most bytes few small =
    (none_packet c.of_messages.ensures most bytes small, packet_none c.of_messages.ensures most bytes few small)

pub returns-clause-one : goal.returns-clause-one
returns-clause-one c most bytes fault other first second = one_fault c.of_messages.ensures first second

pub returns-clause-told : goal.returns-clause-told
returns-clause-told c most bytes fault small =
    (told_first c.of_messages.ensures most bytes small fault, fault_again c.of_messages.ensures most bytes small fault)

pub returns-clause-silent : goal.returns-clause-silent
returns-clause-silent c most bytes few small =
    (packet_found c.of_messages.ensures most bytes small, valid_silent c.of_messages.ensures most bytes few)
