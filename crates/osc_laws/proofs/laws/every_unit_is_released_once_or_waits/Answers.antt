use Rattle.osc_laws.proofs.Given.{all_once}
use Rattle.osc_laws.proofs.laws.every_unit_is_released_once_or_waits.Goals as goal

pub returns : goal.returns
returns c = all_once
