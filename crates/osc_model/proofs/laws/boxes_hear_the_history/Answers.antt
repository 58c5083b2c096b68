use Rattle.osc_model.proofs.Boxes.{others_hear, added_hears, others_left, all_released}
use Rattle.osc_model.proofs.laws.boxes_hear_the_history.Goals as goal

pub returns-clause-others : goal.returns-clause-others
returns-clause-others c = others_hear

pub returns-clause-added : goal.returns-clause-added
returns-clause-added c = added_hears c.a_method_is_called_while_it_is_registered.ensures.given

pub returns-clause-removed : goal.returns-clause-removed
returns-clause-removed c performance caller id address boxes legal =
    others_left performance caller id address boxes (c.a_server_stays_sound.ensures.after performance.caps performance.history legal)

pub returns-clause-released : goal.returns-clause-released
returns-clause-released c = all_released
