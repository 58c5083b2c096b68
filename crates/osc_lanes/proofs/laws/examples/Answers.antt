use Rattle.std.proofs.Common.{refl}
use Rattle.osc_message.specs.Reading.{message_read}
use Rattle.osc_packet.specs.Reading.{element_fault}
use Rattle.osc_pattern.specs.Reading.{read_part}
use Rattle.osc_lanes.proofs.laws.examples.Goals as goal

pub returns-clause-enough_for_two : goal.returns-clause-enough_for_two
unfolding message_read element_fault read_part
returns-clause-enough_for_two c boxes = refl
