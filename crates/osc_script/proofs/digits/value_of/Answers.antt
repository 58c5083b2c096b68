use Rattle.std.proofs.Common.{arith}
use Rattle.osc_script.proofs.Pairs.{digit_told}
use Rattle.osc_script.proofs.digits.value_of.Goals as goal

pub returns-clause-either : goal.returns-clause-either
returns-clause-either c = (digit_told c.args.digit (omega arith)).0

pub returns-clause-digit : goal.returns-clause-digit
returns-clause-digit c = (digit_told c.args.digit (omega arith)).1
