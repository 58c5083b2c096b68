use Rattle.osc_pattern.proofs.PlainPatterns.{plain_pattern}
use Rattle.osc_pattern.proofs.laws.plain_pattern.Goals as goal

pub returns : goal.returns
returns c = plain_pattern
