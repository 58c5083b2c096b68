use Rattle.osc_model.proofs.Callers.{callers_counted, callers_more, callers_never_fall, enrolled_next}
use Rattle.osc_model.proofs.laws.callers_are_counted.Goals as goal

pub returns-clause-after : goal.returns-clause-after
returns-clause-after c = callers_counted

pub returns-clause-grows : goal.returns-clause-grows
returns-clause-grows c = callers_more

pub returns-clause-never_fall : goal.returns-clause-never_fall
returns-clause-never_fall c = callers_never_fall

pub returns-clause-enrolled : goal.returns-clause-enrolled
returns-clause-enrolled c = enrolled_next
