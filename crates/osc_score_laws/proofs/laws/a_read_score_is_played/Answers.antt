use Rattle.osc_score_laws.proofs.Whole.{read_plays}
use Rattle.osc_score_laws.proofs.laws.a_read_score_is_played.Goals as goal

pub returns : goal.returns
returns c caps bytes roomy = read_plays c.known.ensures caps bytes roomy (c.what_is_read_is_a_score.ensures bytes)
