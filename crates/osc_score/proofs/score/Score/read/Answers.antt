use Rattle.osc_score.proofs.Firsts.{first_kept}
use Rattle.osc_score.proofs.score.Score.read.Goals as goal

pub returns-in-Err-clause-first : goal.returns-in-Err-clause-first
returns-in-Err-clause-first c fault is some = first_kept c.args.bytes.now c.in-Err.refusal fault c.in-Err.ensures is
