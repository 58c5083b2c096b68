use Rattle.osc_pattern.proofs.BarePatterns.{even_lanes}
use Rattle.osc_pattern.proofs.check.are_even.Goals as goal

pub returns : goal.returns
returns c = λ all.
    even_lanes c.args.lanes (c.any_below.ensures c.if-any_below.false) (c.any_above.ensures c.if-any_above.false) (c.any_is.ensures c.if-any_is.false)
    (c.any_is-2.ensures c.if-any_is-2.false)
