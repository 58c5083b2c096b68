use Rattle.osc_script.proofs.Lawful.{script_fits}
use Rattle.osc_script.proofs.laws.lines_are_of_their_mode.Goals as goal

pub returns : goal.returns
returns c = script_fits
