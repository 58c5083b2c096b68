use Rattle.osc_patch.specs.Texts.{advice}
use Rattle.osc_patch.proofs.advice.add_advice.Goals as goal

pub returns-in-Nested : goal.returns-in-Nested
unfolding advice
returns-in-Nested c = rw c.in-Nested.is c.add_numbered-in-Nested.ensures
