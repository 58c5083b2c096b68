use Rattle.osc_score_laws.proofs.Whole.{score_plays}
use Rattle.osc_score_laws.proofs.laws.a_score_is_played.Goals as goal

pub returns : goal.returns
returns c = score_plays c.known.ensures
