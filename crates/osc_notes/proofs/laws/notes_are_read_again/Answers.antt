use Rattle.osc_notes.proofs.Again.{notes_again}
use Rattle.osc_notes.proofs.laws.notes_are_read_again.Goals as goal

pub returns : goal.returns
returns c = notes_again c.tests_are_exact.ensures.address
