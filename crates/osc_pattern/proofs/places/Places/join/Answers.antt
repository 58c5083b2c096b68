use Rattle.osc_pattern.proofs.Moves.{bits-joined}
use Rattle.osc_pattern.proofs.places.Places.join.Goals as goal

pub returns : goal.returns
returns c place = bits-joined c.args.self.now.bits c.args.others.now.bits place
