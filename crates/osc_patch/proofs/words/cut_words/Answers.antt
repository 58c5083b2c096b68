use Rattle.std.proofs.Common.{rules, tests}
use Rattle.std.proofs.lemmas.Iterator.Consumers.{map_from_collect, YieldsList-at, YieldsList-from_filter}
use Rattle.std.proofs.lemmas.Iterator.Search.{YieldsList-from_take_while}
use Rattle.std.proofs.lemmas.Iterator.Splits.{YieldsList-from_slice_split}
use Rattle.osc_patch.specs.Words.{is_blank, is_word, is_said}
use Rattle.osc_patch.proofs.words.cut_words.Goals as goal

pub returns : goal.returns
returns c = rw (← c.without_return.ensures) (map_from_collect _ c.collect.ensures.ran
    (YieldsList-from_take_while _ is_said (YieldsList-at c.take_while.ensures.source
    (YieldsList-from_filter _ is_word (YieldsList-at c.filter.ensures.source
    (YieldsList-from_slice_split _ is_blank c.without_return.result.now c.split.ensures.rest c.split.ensures.done c.split.ensures.closure (λ x r q k. search (rules, tests))))
    c.filter.ensures.closure (λ x r q k. search (rules, tests))))
    c.take_while.ensures.closure c.take_while.ensures.done (λ x r q k. search (rules, tests))))
