use Rattle.osc_model.proofs.Queues.{entered_on, numbered_on, kept_on}
use Rattle.osc_model.proofs.laws.units_enter_in_two_goes.Goals as goal

pub returns-clause-entered : goal.returns-clause-entered
returns-clause-entered c = entered_on

pub returns-clause-numbered : goal.returns-clause-numbered
returns-clause-numbered c = numbered_on

pub returns-clause-kept : goal.returns-clause-kept
returns-clause-kept c = kept_on
