use Rattle.std.proofs.Common.{◌≡◌, ◌∷◌, length, drop, position, get_or, sym, ap, subst, ◌∙◌, arith, drop-cons}
use Rattle.std.proofs.lemmas.Bool.{eqb-false}
use Rattle.std.proofs.lemmas.List.{take_rest}
use Rattle.osc_tree.specs.Choosing.{is_odd, IsPlainStar}
use Rattle.osc_tree.proofs.Lists.{none_placed}
use Rattle.osc_tree.proofs.flat.after_star.Goals as goal

pub returns-in-None : goal.returns-in-None
returns-in-None c =
    let text = c.args.text.now in
    let some = eqb-false (length text) 0 (sym c.is_empty.ensures ∙ c.if-is_empty.false) in
    let star : get_or text 0 0 ≡ 42 = c.if-text-ne42.false in
    subst (λ l. IsPlainStar text l) (sym (take_rest text 1))
    (record {
      is = drop-cons text 0 0 (omega (arith, some)) ∙ ap (λ b. b ∷ drop 1 text) star;
      even = none_placed is_odd (drop 1 text) (ap (position is_odd) (sym (take_rest text 1)) ∙ sym c.first_odd.ensures ∙ c.in-None.is);
    })
