use Rattle.std.proofs.Common.{arith}
use Rattle.osc_pattern.specs.Views.{is_place_of}
use Rattle.osc_pattern.proofs.Onward.{any_rest-onward}
use Rattle.osc_pattern.proofs.matcher.after_star.Goals as goal

pub returns-clause-value : goal.returns-clause-value
returns-clause-value g c name test short =
    any_rest-onward test (is_place_of c.args.reached.now) (is_place_of c.onward.result) name (λ place within. c.onward.ensures place (omega arith))
