use Rattle.std.proofs.Common.{◌≡◌, Err, rules}
use Rattle.osc_top.proofs.Inputs.{script_judged}
use Rattle.osc_top.proofs.intake.judge_both.Goals as goal

pub returns-in_err-lines-clause-taken : goal.returns-in_err-lines-clause-taken
returns-in_err-lines-clause-taken g c = λ bytes text past script.
    let same : c.judge_recording.new.out ≡ c.args.out.now = c.in_ok-past.ensures.unwritten in
    let is : c.from_residual-in_err-lines.result ≡ Err c.in_err-lines.field-0.0 = search rules in
    rw (← same)
    rw is
    (script_judged bytes text _ _ _ (c.in_ok-past.ensures.checked bytes past) (c.in_err-lines.ensures.refused text script))
