use Rattle.osc_model.proofs.Refusals.{refusal_stays, none_stays, refusal_silent}
use Rattle.osc_model.proofs.laws.a_refusal_changes_nothing.Goals as goal

pub returns-clause-state : goal.returns-clause-state
returns-clause-state c = refusal_stays

pub returns-clause-all : goal.returns-clause-all
returns-clause-all c = none_stays

pub returns-clause-silent : goal.returns-clause-silent
returns-clause-silent c = refusal_silent
