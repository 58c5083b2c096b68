use Rattle.std.proofs.Common.{refl, ◌∷◌}
use Rattle.osc_model.specs.State.{opening}
use Rattle.osc_model.specs.History.{after}
use Rattle.osc_model.specs.Step.{step}
use Rattle.osc_replay.proofs.Printing.{printed-append}
use Rattle.osc_replay.proofs.laws.printed_calls_are_of_matching_methods.Goals as goal

pub returns : goal.returns
returns c caps before behind entry = record {
  calls = (step (after (opening caps) before) entry.event).invocations;
  of_entry = refl;
  registered = c.invocations_are_of_registered_methods.ensures.step (after (opening caps) before) entry.event;
  text = printed-append (opening caps) before (entry ∷ behind);
}
