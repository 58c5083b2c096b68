use Rattle.std.proofs.Common.{◌++◌, ℕ, List, length, take, nat_le, sym, ap, ◌∙◌, append_assoc, map-id}
use Rattle.std.specs.List.{flat_map}
use Rattle.std.proofs.lemmas.Iterator.{YieldsList-from_chars}
use Rattle.std.proofs.lemmas.Iterator.Consumers.{YieldsList-end}
use Rattle.osc_shown.specs.Added.{counted_char}
use Rattle.osc_shown.specs.Texts.{shown_char}
use Rattle.osc_shown.proofs.Lettering.{counted_on, one_counted, at_most}
use Rattle.osc_shown.proofs.quoted.add_chars.Goals as goal

pub loop-letter-preserved : goal.loop-letter-preserved
loop-letter-preserved c =
    let inv = c.loop-letter.invariant in
    let begun = c.args.out.now.items in
    let letter = c.in-Some.letter in
    record {
      count = c.one_more-count.ensures ∙ one_counted c.loop-letter.count c.loop-letter.yielded letter inv.count;
      added = c.in_ok-add_counted.ensures ∙ ap (λ (l : List ℕ). l ++ counted_char c.loop-letter.count letter) inv.added
          ∙ append_assoc begun (flat_map shown_char (take 40 c.loop-letter.yielded)) (counted_char c.loop-letter.count letter)
          ∙ ap (λ (l : List ℕ). begun ++ l) (sym (counted_on shown_char c.loop-letter.yielded letter c.loop-letter.count inv.count));
    }

pub returns-clause-added : goal.returns-clause-added
returns-clause-added c =
    let end = YieldsList-end (YieldsList-from_chars c.args.text.now c.utf8.text cc) c.loop-letter.yielded _ c.loop-letter.yielded_by _ _ c.in-None.is c.next.ensures.steps in
    c.loop-letter.invariant.added ∙ ap (λ (l : List ℕ). c.args.out.now.items ++ flat_map shown_char (take 40 l)) (sym (map-id c.loop-letter.yielded) ∙ end.0)

pub returns-clause-whole : goal.returns-clause-whole
returns-clause-whole c =
    let end = YieldsList-end (YieldsList-from_chars c.args.text.now c.utf8.text cc) c.loop-letter.yielded _ c.loop-letter.yielded_by _ _ c.in-None.is c.next.ensures.steps in
    at_most c.loop-letter.count (length c.loop-letter.yielded) c.loop-letter.invariant.count
    ∙ ap (λ (l : List ℕ). nat_le (length l) 40) (sym (map-id c.loop-letter.yielded) ∙ end.0)
