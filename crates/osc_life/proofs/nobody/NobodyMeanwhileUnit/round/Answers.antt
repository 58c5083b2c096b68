use Rattle.osc_life.proofs.Rounds.{none_played}
use Rattle.osc_life.proofs.nobody.NobodyMeanwhileUnit.round.Goals as goal

pub returns : goal.returns
returns g c = none_played c.args._desk.now.live.now _ c.args._on.now c.args.self.now c.args.caller c.requires.ours
