use Rattle.osc_model.proofs.Sizes.{sizes_are}
use Rattle.osc_record.proofs.laws.sizes.Goals as goal

pub returns-clause-entry : goal.returns-clause-entry
returns-clause-entry c = sizes_are
