use Rattle.osc_packet.proofs.Known.{of_messages}
use Rattle.osc_carry.proofs.laws.known.Goals as goal

pub returns : goal.returns
returns c =
    of_messages c.written_is_read_again.ensures.accepted c.texts_differ.ensures c.faults_are_first.ensures.one c.faults_are_first.ensures.told
    c.faults_are_first.ensures.silent c.messages_begin_with_a_slash.ensures
