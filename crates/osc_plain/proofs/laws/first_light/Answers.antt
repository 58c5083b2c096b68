use Rattle.std.proofs.Common.{refl}
use Rattle.hex.proofs.OnLiterals.{hex_on_literals}
use Rattle.osc_script.specs.Acts.{act_of}
use Rattle.osc_message.specs.Reading.{message_read}
use Rattle.osc_packet.specs.Reading.{element_fault}
use Rattle.osc_pattern.specs.Reading.{read_part}
use Rattle.std.specs.Fmt.{digits}
use Rattle.osc_plain.proofs.laws.first_light.Goals as goal

pub returns : goal.returns
unfolding act_of message_read element_fault read_part digits hex_on_literals
returns c = refl
