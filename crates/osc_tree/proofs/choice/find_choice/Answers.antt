use Rattle.std.proofs.Common.{ap, sym, ◌+◌, ◌∙◌}
use Rattle.std.proofs.lemmas.List.{take_rest}
use Rattle.osc_pattern.specs.Items.{is_choice_end}
use Rattle.osc_pattern.specs.Reading.{cut_at}
use Rattle.osc_tree.proofs.Gathered.{found_choice, none_some}
use Rattle.osc_tree.proofs.choice.find_choice.Goals as goal

pub returns : goal.returns
returns c =
    let pattern = c.args.pattern.now in
    let end = c.args.end in
    found_choice pattern c.in_ok-texts.texts.now c.in_ok-texts.back.now end c.requires c.if-pattern-end-ne123.false
    (ap (cut_at is_choice_end) (sym (take_rest pattern (end + 1))) ∙ sym c.in_ok-texts.ensures)
    (sym c.first_odd.ensures ∙ none_some c.first_odd.result c.is_some.result c.is_some.ensures c.if-is_some.false)
    (sym c.first_special.ensures ∙ none_some c.first_special.result c.is_some-else-is_some.result c.is_some-else-is_some.ensures c.if-is_some-2.false)
    (c.are_in_order.ensures c.if-not-are_in_order.false)
