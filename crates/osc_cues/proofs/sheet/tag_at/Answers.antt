use Rattle.std.proofs.Common.{◌∙◌, ℕ, Result, Ok, ap}
use Rattle.osc_cues.specs.declared.fault.Fault.{Fault}
use Rattle.osc_cues.specs.Faults.{made}
use Rattle.osc_cues.specs.Moments.{tag_of}
use Rattle.osc_cues.proofs.sheet.tag_at.Goals as goal

pub returns-in-Ok : goal.returns-in-Ok
returns-in-Ok c =
    ap (λ (n : ℕ). Ok n) c.tag_of.ensures ∙ ap (λ (read : Result ℕ Fault). made tag_of read) c.in-Ok.ensures.value

pub returns-in-Err : goal.returns-in-Err
returns-in-Err c = ap (λ (read : Result ℕ Fault). made tag_of read) c.in-Err.ensures.value
