use Rattle.osc_score.proofs.Read.{score_good, none_tree}
use Rattle.osc_score.proofs.laws.what_is_read_is_a_score.Goals as goal

pub returns : goal.returns
returns c = score_good c.tests_are_exact.ensures.address none_tree
