use lib.Ieee.{nan_bits}
use Rattle.std.proofs.Common.{rules}
use Rattle.osc_shown.proofs.argument.is_nan.Goals as goal

pub returns-then-bits-eq255 : goal.returns-then-bits-eq255
unfolding nan_bits
returns-then-bits-eq255 c = search rules

pub returns-else-bits-eq255 : goal.returns-else-bits-eq255
unfolding nan_bits
returns-else-bits-eq255 c = search rules
