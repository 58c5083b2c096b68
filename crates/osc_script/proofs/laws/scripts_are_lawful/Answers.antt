use Rattle.osc_script.proofs.Lawful.{script_lawful, script_few}
use Rattle.osc_script.proofs.laws.scripts_are_lawful.Goals as goal

pub returns-clause-lawful : goal.returns-clause-lawful
returns-clause-lawful c = script_lawful

pub returns-clause-few : goal.returns-clause-few
returns-clause-few c = script_few
