use Rattle.osc_model.proofs.Clocks.{step_on, after_on}
use Rattle.osc_model.proofs.laws.the_clock_never_goes_back.Goals as goal

pub returns-clause-step : goal.returns-clause-step
returns-clause-step c = step_on

pub returns-clause-after : goal.returns-clause-after
returns-clause-after c = after_on
