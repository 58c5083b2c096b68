use Rattle.std.proofs.Common.{sym, ap, ◌∙◌}
use Rattle.std.specs.List.{list_any}
use Rattle.osc_pattern.specs.Cuts.{after_item}
use Rattle.osc_pattern.specs.Views.{item_of}
use Rattle.osc_pattern.specs.ReadyParts.{is_as}
use Rattle.osc_pattern.proofs.ReadOnce.{set_read}
use Rattle.osc_pattern.proofs.ready.ready_item.Goals as goal

pub returns-in-Set-clause-same : goal.returns-in-Set-clause-same
returns-in-Set-clause-same c name test = ap (list_any test)
    (set_read (is_as c.uncounted.result.bytes c.uncounted.result.within) c.in-Set.list.now c.uncounted.ensures name
    ∙ sym (ap (λ i. after_item (item_of i) name) c.in-Set.is))

pub returns-in-Choice-clause-same : goal.returns-in-Choice-clause-same
returns-in-Choice-clause-same c name test =
    c.without_repeats.ensures.same name test
    ∙ sym (ap (λ i. list_any test (after_item (item_of i) name)) c.in-Choice.is)
