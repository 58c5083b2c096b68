use Rattle.osc_shown_laws.proofs.ShownLines.{arguments_again, arguments_cut}
use Rattle.osc_shown_laws.proofs.laws.shown_arguments_are_read_again.Goals as goal

pub returns : goal.returns
returns c = record { whole = arguments_again; cut = arguments_cut }
