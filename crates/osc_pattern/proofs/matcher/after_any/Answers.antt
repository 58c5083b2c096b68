use Rattle.std.proofs.Common.{◌&&◌, ap, arith, ◌∙◌}
use Rattle.osc_pattern.specs.Items.{any}
use Rattle.osc_pattern.specs.Views.{is_place_of}
use Rattle.osc_pattern.proofs.Moves.{any_rest-after}
use Rattle.osc_pattern.proofs.Below.{all_bits}
use Rattle.osc_pattern.proofs.matcher.after_any.Goals as goal

pub returns-clause-value : goal.returns-clause-value
returns-clause-value g c name test short =
    let reached = is_place_of c.args.reached.now in
    any_rest-after any test reached (is_place_of c.after.result) name c.after.ensures.first
    (λ k below. c.after.ensures.others k (omega arith) ∙ ap (λ t. reached k && t) (all_bits k (omega arith)))
