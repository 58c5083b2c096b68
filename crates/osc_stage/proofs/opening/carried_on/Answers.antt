use Rattle.std.proofs.Common.{◌≡◌, ◌++◌, List, map, filter, sym, subst, ap, ◌∙◌}
use Rattle.osc_script.specs.declared.line.Line.{Line}
use Rattle.osc_lanes.specs.Performs.{Part, IsWhole}
use Rattle.osc_stage.specs.Stages.{add_line, carried_on, is_other, AddsAtOwn}
use Rattle.osc_stage.proofs.Adding.{carried_own, carried_whole}
use Rattle.osc_stage.proofs.opening.carried_on.Goals as goal

pub returns-clause-whole : goal.returns-clause-whole
returns-clause-whole g c =
    let adds = c.in_ok-all.ensures.adds in
    let lines : c.append.new.self.items ≡ map add_line c.args.relays.items ++ filter is_other c.args.lines.items =
    c.in_ok-append.ensures.items ∙ (λ i. (ap (λ (p : Part _). p.lines) adds) i ++ c.keep_others.ensures i) in
    subst IsWhole (λ i. record { lines = sym lines i; boxes = sym (ap (λ (p : Part _). p.boxes) adds) i }) (carried_whole c.args.relays.items c.args.lines.items)

pub returns-clause-own : goal.returns-clause-own
returns-clause-own g c =
    let adds = c.in_ok-all.ensures.adds in
    let lines : c.append.new.self.items ≡ map add_line c.args.relays.items ++ filter is_other c.args.lines.items =
    c.in_ok-append.ensures.items ∙ (λ i. (ap (λ (p : Part _). p.lines) adds) i ++ c.keep_others.ensures i) in
    subst AddsAtOwn (λ i. record { lines = sym lines i; boxes = sym (ap (λ (p : Part _). p.boxes) adds) i }) (carried_own c.args.relays.items c.args.lines.items)
