use Rattle.std.proofs.Common.{◌∙◌, ◌<◌, ◌/◌, ◌^◌, arith}
use Rattle.std.proofs.lemmas.Result.{IfOk-weaker}
use Rattle.osc_print.proofs.Days.{the_date}
use Rattle.osc_print.proofs.date.date_text.Goals as goal

pub returns : goal.returns
returns c =
    let small : c.args.moment / 2 ^ 32 < 2 ^ 32 = omega arith in
    IfOk-weaker c.written.result _ _ (λ text e. e ∙ the_date c.date_of.result (c.args.moment / 2 ^ 32) small c.date_of.ensures) c.written.ensures
