use Rattle.osc_model.proofs.Ids.{step_next, next_grows, ids_given}
use Rattle.osc_model.proofs.laws.an_id_is_given_once.Goals as goal

pub returns-clause-next : goal.returns-clause-next
returns-clause-next c = step_next

pub returns-clause-grows : goal.returns-clause-grows
returns-clause-grows c = next_grows

pub returns-clause-given : goal.returns-clause-given
returns-clause-given c = ids_given
