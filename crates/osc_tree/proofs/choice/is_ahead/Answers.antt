use Rattle.std.proofs.Common.{ap, sym, ◌∙◌, is_lt, length}
use Rattle.std.proofs.lemmas.List.{take_rest}
use Rattle.osc_tree.proofs.Ranges.{lower}
use Rattle.osc_tree.proofs.Gathered.{starts_rest, starts_otherwise}
use Rattle.osc_tree.proofs.choice.is_ahead.Goals as goal

pub returns-then-starts_with : goal.returns-then-starts_with
returns-then-starts_with c = c.is_lt.ensures ∙ ap is_lt c.cmp.ensures
    ∙ ap (λ l. lower c.args.back.now l) (take_rest c.args.other.now (length c.args.text.now))
    ∙ starts_rest c.args.text.now c.args.back.now c.args.other.now (sym c.starts_with.ensures.value ∙ c.if-starts_with.true)

pub returns : goal.returns
returns c = c.is_lt-2.ensures ∙ ap is_lt c.cmp-2.ensures
    ∙ starts_otherwise c.args.text.now c.args.back.now c.args.other.now (sym c.starts_with.ensures.value ∙ c.if-starts_with.false)
