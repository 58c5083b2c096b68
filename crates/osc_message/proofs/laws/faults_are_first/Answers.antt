use Rattle.osc_message.proofs.Checks.{none_is, one_is, told_is, silent_is}
use Rattle.osc_message.proofs.laws.faults_are_first.Goals as goal

pub returns-clause-none : goal.returns-clause-none
returns-clause-none c = none_is

pub returns-clause-one : goal.returns-clause-one
returns-clause-one c = one_is

pub returns-clause-told : goal.returns-clause-told
returns-clause-told c = told_is

pub returns-clause-silent : goal.returns-clause-silent
returns-clause-silent c = silent_is
