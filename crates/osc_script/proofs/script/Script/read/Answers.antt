use Rattle.osc_script.proofs.First.{first_answered}
use Rattle.osc_script.proofs.script.Script.read.Goals as goal

pub returns-clause-first : goal.returns-clause-first
returns-clause-first c fault is some = first_answered c.args.mode c.args.bytes.now c.read_lines.result c.read_lines.ensures.reads fault is
