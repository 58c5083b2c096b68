use Rattle.osc_alike.proofs.Steps.{step_alike, events_alike}
use Rattle.osc_alike.proofs.laws.alike_servers_stay_alike.Goals as goal

pub returns-clause-step : goal.returns-clause-step
returns-clause-step c = step_alike

pub returns-clause-events : goal.returns-clause-events
returns-clause-events c = events_alike
