use Rattle.std.proofs.Common.{ℕ, ◌-◌, List, length, take, drop, refl}
use Rattle.osc_script.proofs.Cutting.{word_cut, word_last}
use Rattle.osc_script.proofs.words.next_word.Goals as goal

pub returns-in-Some-clause-words : goal.returns-in-Some-clause-words
returns-in-Some-clause-words c =
    let text : List ℕ = c.args.text.now in
    let k : ℕ = c.in_ok-word.field-0 in
    word_cut text (take (length text - k) (drop k text)) k c.in-Some.end c.in_ok-word.ensures refl c.in-Some.ensures

pub returns-in-None-clause-words : goal.returns-in-None-clause-words
returns-in-None-clause-words c =
    let text : List ℕ = c.args.text.now in
    let k : ℕ = c.in_ok-word.field-0 in
    word_last text (take (length text - k) (drop k text)) k c.in_ok-word.ensures refl c.in-None.ensures
