use Rattle.osc_chain_laws.proofs.Chaining.{plays_as_one}
use Rattle.osc_chain_laws.proofs.laws.chained_recordings_play_as_one.Goals as goal

pub returns : goal.returns
returns c caps first reels legal chained =
    plays_as_one c.alike_servers_stay_alike.ensures.events c.alike_servers_stay_alike.ensures.step c.a_chain_plays_as_one.ensures.chain caps first reels legal chained
