use Rattle.osc_carry.proofs.Chained.{renewed_alike, chains_alike}
use Rattle.osc_carry.proofs.laws.a_chain_plays_as_one.Goals as goal

pub returns-clause-alike : goal.returns-clause-alike
returns-clause-alike c = renewed_alike

pub returns-clause-chain : goal.returns-clause-chain
returns-clause-chain c = chains_alike c.alike_servers_stay_alike.ensures.events
