use Rattle.osc_notes.proofs.Again.{score_again}
use Rattle.osc_notes.proofs.laws.a_score_is_read_again.Goals as goal

pub returns : goal.returns
returns c = score_again c.tests_are_exact.ensures.address
