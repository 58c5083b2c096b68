use Rattle.std.proofs.Common.{refl}
use Rattle.osc_pattern.specs.Reading.{read_part}
use Rattle.osc_pattern.proofs.laws.examples.Goals as goal

pub returns-clause-choice : goal.returns-clause-choice
unfolding read_part
returns-clause-choice c = refl

pub returns-clause-star : goal.returns-clause-star
unfolding read_part
returns-clause-star c = refl

pub returns-clause-both : goal.returns-clause-both
unfolding read_part
returns-clause-both c = refl

pub returns-clause-reversed : goal.returns-clause-reversed
unfolding read_part
returns-clause-reversed c = refl

pub returns-clause-dash : goal.returns-clause-dash
unfolding read_part
returns-clause-dash c = refl
