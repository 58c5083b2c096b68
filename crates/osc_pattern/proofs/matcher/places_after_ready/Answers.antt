use Rattle.std.proofs.Common.{sym, ap, ◌∙◌}
use Rattle.std.specs.List.{list_any}
use Rattle.osc_pattern.specs.Views.{passes}
use Rattle.osc_pattern.specs.ReadyParts.{after_ready}
use Rattle.osc_pattern.proofs.matcher.places_after_ready.Goals as goal

pub returns-in-Set-clause-value : goal.returns-in-Set-clause-value
returns-in-Set-clause-value g c = λ test.
    c.after_one.ensures.value test
    ∙ ap (λ i. passes (λ rest. list_any test (after_ready i rest)) c.args.reached.now c.args.name.now) (sym c.in-Set.is)

pub returns-in-Other-clause-value : goal.returns-in-Other-clause-value
returns-in-Other-clause-value g c = λ test.
    c.places_after_any.ensures.value test
    ∙ ap (λ i. passes (λ rest. list_any test (after_ready i rest)) c.args.reached.now c.args.name.now) (sym c.in-Other.is)

pub returns-in-Many-clause-value : goal.returns-in-Many-clause-value
returns-in-Many-clause-value g c = λ test.
    c.after_many.ensures.value test
    ∙ ap (λ i. passes (λ rest. list_any test (after_ready i rest)) c.args.reached.now c.args.name.now) (sym c.in-Many.is)
