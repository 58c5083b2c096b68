use Rattle.osc_model.proofs.Queues.{one_counted, one_blocks, all_counted, numbered_length, kept_length, kept_few, kept_blocks_few}
use Rattle.osc_model.proofs.laws.units_are_counted.Goals as goal

pub returns-clause-one : goal.returns-clause-one
returns-clause-one c = one_counted

pub returns-clause-one_blocks : goal.returns-clause-one_blocks
returns-clause-one_blocks c = one_blocks

pub returns-clause-all : goal.returns-clause-all
returns-clause-all c = all_counted

pub returns-clause-numbered : goal.returns-clause-numbered
returns-clause-numbered c = numbered_length

pub returns-clause-kept : goal.returns-clause-kept
returns-clause-kept c = kept_length

pub returns-clause-few : goal.returns-clause-few
returns-clause-few c = kept_few

pub returns-clause-few_blocks : goal.returns-clause-few_blocks
returns-clause-few_blocks c = kept_blocks_few
