use Rattle.osc_laws.proofs.InTime.{all_in_time}
use Rattle.osc_laws.proofs.laws.no_unit_is_released_before_its_tag.Goals as goal

pub returns : goal.returns
returns c = all_in_time c.a_release_takes_the_least_unit.ensures.after
