use Rattle.std.proofs.Common.{sym, ◌∙◌}
use Rattle.osc_message.proofs.WordTags.{words_none, words_read}
use Rattle.osc_message.proofs.parts.end_as_words.Goals as goal

pub returns-then-are_words-clause-none : goal.returns-then-are_words-clause-none
returns-then-are_words-clause-none c = λ filled. words_none c.args.tags.now (sym c.are_words.ensures ∙ c.if-are_words.true)

pub returns-then-are_words-clause-read : goal.returns-then-are_words-clause-read
returns-then-are_words-clause-read c = λ filled place.
    words_read c.args.tags.now c.args.bytes.now place c.args.start (sym c.are_words.ensures ∙ c.if-are_words.true) filled
