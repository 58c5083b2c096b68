-- A message that is begun with a pattern isn't refused it.
use Rattle.std.proofs.Common.{◌≡◌, ℕ, List, [], refl, subst}
use Rattle.std.specs.Prelude.{Option, Some, None, Result, Ok, Err}
use Rattle.osc_message.specs.declared.build_fault.BuildFault.{BuildFault}
use Rattle.osc_message.specs.Building.{Building}
use Rattle.osc_c.specs.declared.answer.Answer.{Answer}
use Rattle.osc_c.specs.declared.argument.Argument.{Argument}
use Rattle.osc_c.specs.Building.{pushed_from, Pushes, Writes}

pub begun : (refusal : Option BuildFault) (pattern : List ℕ) (arguments : List Argument) (bytes : List ℕ) (building : Building)
    → ((fault : BuildFault) → refusal ≡ Some fault → ◌≡◌ {A = Result Building BuildFault} (Ok building) (Err fault))
    → building ≡ record { pattern = pattern; arguments = [] }
    → (answer : Answer) (before after : List ℕ) → Pushes (pushed_from bytes building 0 arguments) answer before after
    → Writes refusal pattern arguments bytes answer before after
begun None pattern arguments bytes building none is answer before after pushes =
    subst (λ (b : Building). Pushes (pushed_from bytes b 0 arguments) answer before after) is pushes
begun (Some fault) pattern arguments bytes building none is answer before after pushes =
    let clash : ◌≡◌ {A = Result Building BuildFault} (Ok building) (Err fault) = none fault refl in absurd (cc)
