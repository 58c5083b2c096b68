use Rattle.osc_cues.proofs.Sizes.{too_large}
use Rattle.osc_cues.proofs.number.size_of.Goals as goal

pub returns-in-Err : goal.returns-in-Err
returns-in-Err c = too_large c.args.digits.now c.in-Err.field-0 c.in-Err.ensures c.requires
