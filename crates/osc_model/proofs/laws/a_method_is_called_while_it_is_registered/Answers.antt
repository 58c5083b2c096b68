use Rattle.osc_model.proofs.Silence.{called_given, removed_silent}
use Rattle.osc_model.proofs.laws.a_method_is_called_while_it_is_registered.Goals as goal

pub returns-clause-given : goal.returns-clause-given
returns-clause-given c caps history legal =
    called_given
    (record {
      registered = c.invocations_are_of_registered_methods.ensures.step;
      grows = c.an_id_is_given_once.ensures.grows;
      given = c.an_id_is_given_once.ensures.given;
    }) caps history

pub returns-clause-removed : goal.returns-clause-removed
returns-clause-removed c =
    removed_silent
    (record {
      registered = c.invocations_are_of_registered_methods.ensures.step;
      grows = c.an_id_is_given_once.ensures.grows;
      given = c.an_id_is_given_once.ensures.given;
    }) c.a_server_stays_sound.ensures.after
