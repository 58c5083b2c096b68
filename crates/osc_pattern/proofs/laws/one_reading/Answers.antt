use Rattle.osc_pattern.proofs.Readings.{one_reading, read_part-exact}
use Rattle.osc_pattern.proofs.laws.one_reading.Goals as goal

pub returns-clause-unique : goal.returns-clause-unique
returns-clause-unique c = one_reading

pub returns-clause-found : goal.returns-clause-found
returns-clause-found c = read_part-exact
