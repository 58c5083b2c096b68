use Rattle.osc_script.proofs.Modes.{add_served, unknown_served, miscounted_served, other_served}
use Rattle.osc_script.proofs.laws.serve_takes_adds_alone.Goals as goal

pub returns : goal.returns
returns c = record { add = add_served; unknown = unknown_served; counted = miscounted_served; refused = other_served }
