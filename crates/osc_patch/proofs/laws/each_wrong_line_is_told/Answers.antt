use Rattle.osc_patch.proofs.Telling.{each_told}
use Rattle.osc_patch.proofs.laws.each_wrong_line_is_told.Goals as goal

pub returns : goal.returns
returns c = each_told
