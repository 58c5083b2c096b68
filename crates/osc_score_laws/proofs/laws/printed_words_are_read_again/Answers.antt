use Rattle.osc_score_laws.proofs.Printed.{word_again}
use Rattle.osc_score_laws.proofs.laws.printed_words_are_read_again.Goals as goal

pub returns : goal.returns
returns c = word_again
