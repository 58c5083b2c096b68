use Rattle.osc_laws.proofs.ReadOff.{clock_is}
use Rattle.osc_laws.proofs.laws.the_clock_is_read_off.Goals as goal

pub returns : goal.returns
returns c = clock_is
