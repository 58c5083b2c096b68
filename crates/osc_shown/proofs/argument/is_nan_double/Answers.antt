use lib.Ieee.{nan_bits}
use Rattle.std.proofs.Common.{rules}
use Rattle.osc_shown.proofs.argument.is_nan_double.Goals as goal

pub returns-then-bits-eq2047 : goal.returns-then-bits-eq2047
unfolding nan_bits
returns-then-bits-eq2047 c = search rules

pub returns-else-bits-eq2047 : goal.returns-else-bits-eq2047
unfolding nan_bits
returns-else-bits-eq2047 c = search rules
