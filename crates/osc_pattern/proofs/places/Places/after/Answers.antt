use Rattle.osc_pattern.proofs.Moves.{bits-after}
use Rattle.osc_pattern.proofs.places.Places.after.Goals as goal

pub returns-clause-others : goal.returns-clause-others
returns-clause-others c place within = bits-after c.args.self.now.bits c.args.marks place within
