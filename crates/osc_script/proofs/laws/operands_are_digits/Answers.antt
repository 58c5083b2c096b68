use Rattle.osc_script.proofs.Operands.{packet_digits, moment_digits}
use Rattle.osc_script.proofs.laws.operands_are_digits.Goals as goal

pub returns : goal.returns
returns c = record { packet = packet_digits; moment = moment_digits }
