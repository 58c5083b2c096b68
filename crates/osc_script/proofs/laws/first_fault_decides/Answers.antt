use Rattle.osc_script.proofs.First.{first_fault}
use Rattle.osc_script.proofs.laws.first_fault_decides.Goals as goal

pub returns : goal.returns
returns c = first_fault
