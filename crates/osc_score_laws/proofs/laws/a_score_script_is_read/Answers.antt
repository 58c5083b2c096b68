use Rattle.osc_score.specs.Scripted.{score_acts}
use Rattle.osc_score_laws.proofs.Rewritten.{score_writable, script_short}
use Rattle.osc_score_laws.proofs.laws.a_score_script_is_read.Goals as goal

pub returns : goal.returns
returns c notes is few =
    c.written_scripts_are_read_again.ensures (score_acts notes) (score_writable c.known.ensures notes is) (script_short notes few)
