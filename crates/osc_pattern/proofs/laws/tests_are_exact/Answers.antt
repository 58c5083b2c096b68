use Rattle.std.proofs.Common.{refl}
use Rattle.osc_pattern.specs.Reading.{match_part}
use Rattle.osc_pattern.specs.Patterns.{matches}
use Rattle.osc_pattern.proofs.PatternLaws.{is_pattern-exact, match_part-decides, matches-decides}
use Rattle.osc_pattern.proofs.AddressLaws.{is_address-exact}
use Rattle.osc_pattern.proofs.laws.tests_are_exact.Goals as goal

pub returns-clause-part : goal.returns-clause-part
returns-clause-part c = λ part name. match_part-decides (match_part part name) part name refl

pub returns-clause-whole : goal.returns-clause-whole
returns-clause-whole c = λ pattern address. matches-decides (matches pattern address) pattern address refl

pub returns-clause-pattern : goal.returns-clause-pattern
returns-clause-pattern c = is_pattern-exact

pub returns-clause-address : goal.returns-clause-address
returns-clause-address c = is_address-exact
