use Rattle.osc_pattern.proofs.AddressPatterns.{address_pattern, matches_itself}
use Rattle.osc_pattern.proofs.laws.an_address_is_a_pattern.Goals as goal

pub returns-clause-lawful : goal.returns-clause-lawful
returns-clause-lawful c = address_pattern

pub returns-clause-itself_alone : goal.returns-clause-itself_alone
returns-clause-itself_alone c = matches_itself
