use Rattle.std.proofs.Common.{◌+◌, List, ℕ, sym, ap, subst, ◌∙◌, Contains}
use Rattle.std.specs.List.{slice_split}
use Rattle.std.proofs.lemmas.List.{take_rest}
use Rattle.osc_pattern.specs.Items.{is_choice_end, is_comma}
use Rattle.osc_pattern.specs.Reading.{cut_at}
use Rattle.osc_tree.specs.Walking.{is_ahead, IsReached}
use Rattle.osc_tree.proofs.Choices.{texts_none, choice_aims, last_is}
use Rattle.osc_tree.proofs.aim.aim_among.Goals as goal

pub least_text-requires-clause-one : goal.least_text-requires-clause-one
least_text-requires-clause-one c =
    let part = c.args.part.now in
    let end = c.args.end in
    texts_none part c.in_ok-texts.texts.now c.in_ok-texts.after.now end c.requires.one
    (ap (cut_at is_choice_end) (sym (take_rest part (end + 1))) ∙ sym c.in_ok-texts.ensures)

pub returns-clause-aim : goal.returns-clause-aim
returns-clause-aim c =
    let part = c.args.part.now in
    let end = c.args.end in
    let rest = c.args.rest.now in
    let aim = c.in_ok-aim.aim.now in
    choice_aims part c.in_ok-texts.texts.now c.in_ok-texts.after.now rest aim end c.byte_after.result c.requires.special c.requires.choice
    (ap (cut_at is_choice_end) (sym (take_rest part (end + 1))) ∙ sym c.in_ok-texts.ensures)
    (last_is c.in_ok-texts.after.now c.byte_after.result c.byte_after.ensures)
    c.requires.one c.requires.begun (ap (λ l. is_ahead l aim) (sym (take_rest rest end)) ∙ c.in_ok-aim.ensures.ahead) c.in_ok-aim.ensures.one
    (subst (λ l. (text : List ℕ) → Contains (slice_split is_comma c.in_ok-texts.texts.now) text → IsReached l c.byte_after.result text aim) (take_rest rest end)
    c.in_ok-aim.ensures.reach)
