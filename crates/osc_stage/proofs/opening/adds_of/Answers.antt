use Rattle.std.proofs.Common.{map, sym, subst, ap, ◌∙◌}
use Rattle.osc_lanes.specs.Performs.{IsWhole}
use Rattle.osc_stage.specs.Stages.{add_line, AddsAtOwn}
use Rattle.osc_stage.proofs.Adding.{adds_own, adds_whole}
use Rattle.osc_stage.proofs.opening.adds_of.Goals as goal

pub returns-clause-whole : goal.returns-clause-whole
returns-clause-whole g c =
    subst (λ lines. IsWhole (record { lines = lines; boxes = c.args.relays.items })) (sym (c.in_ok-lines.ensures ∙ ap (map add_line) c.deref.ensures.value))
    (adds_whole c.args.relays.items)

pub returns-clause-own : goal.returns-clause-own
returns-clause-own g c =
    subst (λ lines. AddsAtOwn (record { lines = lines; boxes = c.args.relays.items })) (sym (c.in_ok-lines.ensures ∙ ap (map add_line) c.deref.ensures.value))
    (adds_own c.args.relays.items)
