use Rattle.std.proofs.Common.{sym, ap, inr, ◌∙◌}
use Rattle.std.specs.List.{list_any}
use Rattle.osc_pattern.specs.Cuts.{after_byte, after_item}
use Rattle.osc_pattern.specs.Views.{item_of, is_place_of, passes}
use Rattle.osc_pattern.proofs.Matches.{after_item-byte}
use Rattle.osc_pattern.proofs.Reaches.{any_rest-same}
use Rattle.osc_pattern.proofs.matcher.places_after.Goals as goal

pub returns-in-Star-clause-value : goal.returns-in-Star-clause-value
returns-in-Star-clause-value g c = λ test.
    c.after_star.ensures.value c.args.name.now test c.requires.short
    ∙ ap (λ i. passes (λ rest. list_any test (after_item (item_of i) rest)) c.args.reached.now c.args.name.now)
    (sym c.in-Star.is)

pub returns-in-Set-clause-value : goal.returns-in-Set-clause-value
returns-in-Set-clause-value g c = λ test.
    c.after_set.ensures.value test ∙ ap (λ i. passes (λ rest. list_any test (after_item (item_of i) rest)) c.args.reached.now c.args.name.now)
    (sym c.in-Set.is)

pub returns-in-Any-clause-value : goal.returns-in-Any-clause-value
returns-in-Any-clause-value g c = λ test.
    c.after_any.ensures.value c.args.name.now test c.requires.short
    ∙ ap (λ i. passes (λ rest. list_any test (after_item (item_of i) rest)) c.args.reached.now c.args.name.now) (sym c.in-Any.is)

pub returns-in-Plain-clause-value : goal.returns-in-Plain-clause-value
returns-in-Plain-clause-value g c = λ test.
    c.after_byte.ensures.value test
    ∙ any_rest-same (λ rest. list_any test (after_byte (item_of c.args.item) rest)) (λ rest. list_any test (after_item (item_of c.args.item) rest))
    (λ rest. ap (list_any test) (after_item-byte c.args.item rest (inr (inr (_, c.in-Plain.is))))) (is_place_of c.args.reached.now) 0 c.args.name.now
