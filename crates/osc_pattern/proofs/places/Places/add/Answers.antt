use Rattle.osc_pattern.proofs.Reaches.{bits-added}
use Rattle.osc_pattern.proofs.places.Places.add.Goals as goal

pub returns : goal.returns
returns c = bits-added c.args.self.now.bits c.args.place c.requires
