use Rattle.std.proofs.Common.{◌∙◌}
use Rattle.std.proofs.lemmas.Bool.{cond-true, cond-false}
use Rattle.osc_shown_laws.proofs.Words.{word_again, word_uncut}
use Rattle.osc_shown_laws.proofs.laws.shown_words_are_read_again.Goals as goal

pub returns : goal.returns
returns c = record {
  whole = λ argument said fits bytes whole is. word_again argument said fits bytes is ∙ cond-true _ _ _ whole;
  cut = λ argument said fits bytes cut is. word_again argument said fits bytes is ∙ cond-false _ _ _ cut;
  uncut = λ argument said fits bytes is. word_uncut argument said fits bytes is;
}
