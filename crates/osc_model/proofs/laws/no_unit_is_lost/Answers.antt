use Rattle.osc_model.proofs.Passing.{step_passes, history_passes, enters_told, leaves_told}
use Rattle.osc_model.proofs.laws.no_unit_is_lost.Goals as goal

pub returns-clause-step : goal.returns-clause-step
returns-clause-step c = step_passes

pub returns-clause-history : goal.returns-clause-history
returns-clause-history c = history_passes

pub returns-clause-entering : goal.returns-clause-entering
returns-clause-entering c = enters_told

pub returns-clause-leaving : goal.returns-clause-leaving
returns-clause-leaving c = leaves_told
