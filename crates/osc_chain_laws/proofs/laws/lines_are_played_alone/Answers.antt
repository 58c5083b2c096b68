use Rattle.osc_chain_laws.proofs.Opened.{plays_plain}
use Rattle.osc_chain_laws.proofs.laws.lines_are_played_alone.Goals as goal

pub returns : goal.returns
returns g c caps lines boxes told opened plays alone = plays_plain g.M.Method.keep g.M.Method.heard caps lines boxes told opened plays alone
