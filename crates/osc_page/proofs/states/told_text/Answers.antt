use Rattle.osc_page.proofs.ToldTexts.{as_text, as_mark}
use Rattle.osc_page.proofs.states.told_text.Goals as goal

pub returns-in-Ok : goal.returns-in-Ok
returns-in-Ok c =
    let cases = c.in-Ok.ensures.cases in
    as_text c.args.bytes.now c.in-Ok.text.now cases.0 cases.1

pub returns-in-Err : goal.returns-in-Err
returns-in-Err c = as_mark c.args.bytes.now c.in-Err.ensures.cases.0
