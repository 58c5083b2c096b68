use Rattle.std.proofs.Common.{sym, ap, ◌∙◌}
use Rattle.std.specs.List.{list_any}
use Rattle.osc_pattern.specs.Cuts.{after_item}
use Rattle.osc_pattern.specs.Views.{item_of, passes}
use Rattle.osc_pattern.proofs.matcher.places_after_any.Goals as goal

pub returns-in-Choice-clause-value : goal.returns-in-Choice-clause-value
returns-in-Choice-clause-value g c = λ test.
    c.after_choice.ensures.value c.args.name.now test c.requires.short c.requires.marks
    ∙ ap (λ i. passes (λ rest. list_any test (after_item (item_of i) rest)) c.args.reached.now c.args.name.now) (sym c.in-Choice.is)

pub returns-in-Plain-clause-value : goal.returns-in-Plain-clause-value
returns-in-Plain-clause-value g c = λ test.
    c.after_plain.ensures.value c.args.name.now test c.requires.short c.requires.marks
    ∙ ap (λ i. passes (λ rest. list_any test (after_item (item_of i) rest)) c.args.reached.now c.args.name.now) (sym c.in-Plain.is)
