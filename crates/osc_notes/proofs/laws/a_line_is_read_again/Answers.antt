use Rattle.osc_notes.proofs.Again.{line_again}
use Rattle.osc_notes.proofs.laws.a_line_is_read_again.Goals as goal

pub returns : goal.returns
returns c = line_again c.tests_are_exact.ensures.address
