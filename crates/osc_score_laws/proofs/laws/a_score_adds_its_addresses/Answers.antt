use Rattle.osc_score_laws.proofs.Faultless.{score_adds}
use Rattle.osc_score_laws.proofs.laws.a_score_adds_its_addresses.Goals as goal

pub returns : goal.returns
returns c = score_adds
