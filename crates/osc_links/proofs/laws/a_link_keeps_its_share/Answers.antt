use Rattle.osc_links.proofs.laws.a_link_keeps_its_share.Goals as goal

pub returns : goal.returns
returns g c holder bounds from end here there history served none on = (here, there, none, served.plays, on)
