use Rattle.std.proofs.Common.{sym, ap, ◌∙◌}
use Rattle.std.specs.List.{list_any}
use Rattle.osc_pattern.specs.Cuts.{after_item}
use Rattle.osc_pattern.specs.Reading.{match_part}
use Rattle.osc_pattern.specs.Views.{item_of}
use Rattle.osc_pattern.proofs.Moves.{same_any, star_after}
use Rattle.osc_pattern.proofs.matcher.rest_after.Goals as goal

pub returns-in-Star-clause-same : goal.returns-in-Star-clause-same
returns-in-Star-clause-same c name =
    let short = c.without_idle.result.now in
    let others = c.args.others.now in
    ap (λ i. list_any (match_part short) (after_item (item_of i) name)) c.in-Star.is
    ∙ star_after short others name (c.without_idle.ensures.same name)
    ∙ sym (ap (λ i. list_any (match_part others) (after_item (item_of i) name)) c.in-Star.is)

pub returns-in-Any-clause-same : goal.returns-in-Any-clause-same
returns-in-Any-clause-same c name =
    same_any (match_part c.without_empty.result.now) (match_part c.args.others.now) (λ rest. c.without_empty.ensures.same rest)
    (after_item (item_of c.args.item) name)
