use Rattle.osc_model.proofs.Onward.{onward_legal, onward_state, onward_invoked}
use Rattle.osc_model.proofs.laws.a_performance_goes_on.Goals as goal

pub returns-clause-legal : goal.returns-clause-legal
returns-clause-legal c = onward_legal

pub returns-clause-state : goal.returns-clause-state
returns-clause-state c = onward_state

pub returns-clause-invoked : goal.returns-clause-invoked
returns-clause-invoked c = onward_invoked
