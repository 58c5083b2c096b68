use Rattle.osc_atoms.specs.declared.limits.TheConstants.{MAX_PACKET}
use Rattle.osc_packet.specs.Known.{OfMessages}
use Rattle.osc_packet.proofs.Known.{of_messages}
use Rattle.osc_score_laws.proofs.Gathered.{small, text_accepted, both}
use Rattle.osc_score_laws.proofs.laws.known.Goals as goal

pub returns : goal.returns
returns c =
    let messages : OfMessages =
    of_messages c.written_is_read_again.ensures.accepted c.texts_differ.ensures c.faults_are_first.ensures.one c.faults_are_first.ensures.told
    c.faults_are_first.ensures.silent c.messages_begin_with_a_slash.ensures in
    record {
      accepted = text_accepted messages;
      units = λ packet valid. c.units_are_read_again.ensures MAX_PACKET packet small valid;
      message = λ pattern arguments lawful. let read = c.written_is_read_again.ensures.of_known pattern arguments lawful in
          record { pattern_is = read.0; tags_are = read.1; arguments_are = read.2; all_known = read.3 };
      spelled = λ address is. (c.tests_are_exact.ensures.address address).1 is;
      pattern = c.an_address_is_a_pattern.ensures.lawful;
      itself = λ address other lawful others. both (c.tests_are_exact.ensures.whole address other)
          (c.an_address_is_a_pattern.ensures.itself_alone address other lawful others);
    }
