use Rattle.osc_model.proofs.Hearing.{all_heard, all_within, fresh_heard, heard_on}
use Rattle.osc_model.proofs.laws.a_box_hears_its_calls.Goals as goal

pub returns-clause-calls : goal.returns-clause-calls
returns-clause-calls c = all_heard

pub returns-clause-within : goal.returns-clause-within
returns-clause-within c = all_within

pub returns-clause-fresh : goal.returns-clause-fresh
returns-clause-fresh c = fresh_heard

pub returns-clause-on : goal.returns-clause-on
returns-clause-on c = heard_on
