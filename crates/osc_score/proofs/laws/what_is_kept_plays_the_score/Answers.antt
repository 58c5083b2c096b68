use Rattle.osc_score.proofs.Batching.{plan_plays}
use Rattle.osc_score.proofs.laws.what_is_kept_plays_the_score.Goals as goal

pub returns : goal.returns
returns c = plan_plays
