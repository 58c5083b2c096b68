use Rattle.osc_script.proofs.Cutting.{line_cut}
use Rattle.osc_script.proofs.words.first_line.Goals as goal

pub returns-in-Some-clause-lines : goal.returns-in-Some-clause-lines
returns-in-Some-clause-lines c = line_cut c.args.rest.now c.without_return.result.now c.in-Some.end c.in-Some.ensures c.without_return.ensures
