use Rattle.osc_model.proofs.Invoked.{invokes_registered, all_invoked}
use Rattle.osc_model.proofs.laws.invocations_are_of_registered_methods.Goals as goal

pub returns-clause-step : goal.returns-clause-step
returns-clause-step c = invokes_registered (record { listed = c.the_matching_methods_ascend.ensures.exactly; decides = c.tests_are_exact.ensures.whole })

pub returns-clause-history : goal.returns-clause-history
returns-clause-history c = all_invoked (record { listed = c.the_matching_methods_ascend.ensures.exactly; decides = c.tests_are_exact.ensures.whole })
