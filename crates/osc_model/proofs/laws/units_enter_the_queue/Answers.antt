use Rattle.osc_model.proofs.Queues.{all_joined, all_blocks}
use Rattle.osc_model.proofs.laws.units_enter_the_queue.Goals as goal

pub returns-clause-joined : goal.returns-clause-joined
returns-clause-joined c = all_joined

pub returns-clause-blocks : goal.returns-clause-blocks
returns-clause-blocks c = all_blocks
