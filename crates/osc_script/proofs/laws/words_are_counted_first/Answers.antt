use Rattle.osc_script.proofs.Operands.{unknown_word, wrong_count}
use Rattle.osc_script.proofs.laws.words_are_counted_first.Goals as goal

pub returns : goal.returns
returns c = record { unknown = unknown_word; counted = wrong_count }
