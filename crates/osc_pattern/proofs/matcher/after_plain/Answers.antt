use Rattle.std.proofs.Common.{◌&&◌, ap, arith, ◌∙◌}
use Rattle.osc_pattern.specs.Items.{plain}
use Rattle.osc_pattern.specs.Views.{is_place_of}
use Rattle.osc_pattern.proofs.Moves.{any_rest-after}
use Rattle.osc_pattern.proofs.matcher.after_plain.Goals as goal

pub returns-clause-value : goal.returns-clause-value
returns-clause-value g c name test short marked =
    let reached = is_place_of c.args.reached.now in
    any_rest-after (plain c.args.own) test reached (is_place_of c.after.result) name c.after.ensures.first
    (λ k below. c.after.ensures.others k (omega arith) ∙ ap (λ t. reached k && t) (marked c.args.own k (omega (arith, c.ranges.own.fits)) below))
