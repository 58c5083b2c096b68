use Rattle.std.proofs.Common.{◌≡◌, ◌+◌, ◌-◌, ℕ, List, length, take, drop, sym, arith, length-drop}
use Rattle.std.proofs.lemmas.List.{take_all}
use Rattle.osc_message.proofs.WordTags.{tagged_as}
use Rattle.osc_message.proofs.parts.read_tag_string.Goals as goal

pub returns-then-end_as_words-clause-read : goal.returns-then-end_as_words-clause-read
returns-then-end_as_words-clause-read c =
    let text : List ℕ = c.in_ok-text.text.now in
    let tags : List ℕ = take (length text - 1) (drop 1 text) in
    let same : tags ≡ drop 1 text = take_all (length text - 1) (drop 1 text) (omega (arith, length-drop 1 text)) in
    sym (tagged_as c.args.bytes.now c.args.pattern.now text tags c.args.at c.in_ok-text.place same (sym c.in_ok-text.ensures.read)
    (c.end_as_words.ensures.read c.if-end_as_words.true (c.args.at + 1)))
