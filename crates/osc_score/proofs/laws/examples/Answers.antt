use Rattle.std.proofs.Common.{refl}
use Rattle.hex.proofs.OnLiterals.{hex_on_literals}
use Rattle.osc_score.proofs.laws.examples.Goals as goal

pub returns-clause-read : goal.returns-clause-read
unfolding hex_on_literals
returns-clause-read c = refl

pub returns-clause-order : goal.returns-clause-order
unfolding hex_on_literals
returns-clause-order c = refl

pub returns-clause-count : goal.returns-clause-count
unfolding hex_on_literals
returns-clause-count c = refl

pub returns-clause-tag : goal.returns-clause-tag
unfolding hex_on_literals
returns-clause-tag c = refl

pub returns-clause-least : goal.returns-clause-least
unfolding hex_on_literals
returns-clause-least c = refl

pub returns-clause-address : goal.returns-clause-address
unfolding hex_on_literals
returns-clause-address c = refl

pub returns-clause-arg : goal.returns-clause-arg
unfolding hex_on_literals
returns-clause-arg c = refl

pub returns-clause-brackets : goal.returns-clause-brackets
unfolding hex_on_literals
returns-clause-brackets c = refl

pub returns-clause-clash : goal.returns-clause-clash
unfolding hex_on_literals
returns-clause-clash c = refl

pub returns-clause-words : goal.returns-clause-words
unfolding hex_on_literals
returns-clause-words c = refl
