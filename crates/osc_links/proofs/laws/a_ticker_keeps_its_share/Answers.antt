use Rattle.osc_life.specs.Holders.{seen_by}
use Rattle.osc_links.proofs.laws.a_ticker_keeps_its_share.Goals as goal

pub returns : goal.returns
returns g c caps before after tokens clock end history ticks none on = (seen_by before, seen_by after, none, ticks, on)
