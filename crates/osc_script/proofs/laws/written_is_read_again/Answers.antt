use Rattle.osc_script.proofs.Operands.{lower_again, upper_again, moment_again}
use Rattle.osc_script.proofs.laws.written_is_read_again.Goals as goal

pub returns : goal.returns
returns c = record { lower = lower_again; upper = upper_again; moment = moment_again }
