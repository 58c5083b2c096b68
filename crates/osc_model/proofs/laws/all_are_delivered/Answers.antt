use Rattle.osc_model.proofs.Queues.{all_kept, all_kept_numbered, none_late}
use Rattle.osc_model.proofs.laws.all_are_delivered.Goals as goal

pub returns-clause-kept : goal.returns-clause-kept
returns-clause-kept c = all_kept

pub returns-clause-numbered : goal.returns-clause-numbered
returns-clause-numbered c = all_kept_numbered

pub returns-clause-none : goal.returns-clause-none
returns-clause-none c = none_late
