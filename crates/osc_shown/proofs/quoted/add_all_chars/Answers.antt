use Rattle.std.proofs.Common.{◌++◌, ℕ, List, sym, ap, ◌∙◌, append_assoc, map-id}
use Rattle.std.specs.List.{flat_map}
use Rattle.std.proofs.lemmas.Iterator.{YieldsList-from_chars}
use Rattle.std.proofs.lemmas.Iterator.Consumers.{YieldsList-end}
use Rattle.osc_shown.specs.Texts.{shown_char}
use Rattle.osc_shown.proofs.Lettering.{all_on}
use Rattle.osc_shown.proofs.quoted.add_all_chars.Goals as goal

pub loop-letter-preserved : goal.loop-letter-preserved
loop-letter-preserved c =
    let begun = c.args.out.now.items in
    let letter = c.in-Some.letter in
    c.in_ok-add_char.ensures ∙ ap (λ (l : List ℕ). l ++ shown_char letter) c.loop-letter.invariant
    ∙ append_assoc begun (flat_map shown_char c.loop-letter.yielded) (shown_char letter)
    ∙ ap (λ (l : List ℕ). begun ++ l) (sym (all_on shown_char c.loop-letter.yielded letter))

pub returns : goal.returns
returns c =
    let end = YieldsList-end (YieldsList-from_chars c.args.text.now c.utf8.text cc) c.loop-letter.yielded _ c.loop-letter.yielded_by _ _ c.in-None.is c.next.ensures.steps in
    c.loop-letter.invariant ∙ ap (λ (l : List ℕ). c.args.out.now.items ++ flat_map shown_char l) (sym (map-id c.loop-letter.yielded) ∙ end.0)
