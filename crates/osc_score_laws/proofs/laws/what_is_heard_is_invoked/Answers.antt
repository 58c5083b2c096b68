use Rattle.osc_score_laws.proofs.Plays.{heard_is}
use Rattle.osc_score_laws.proofs.laws.what_is_heard_is_invoked.Goals as goal

pub returns : goal.returns
returns c = heard_is
