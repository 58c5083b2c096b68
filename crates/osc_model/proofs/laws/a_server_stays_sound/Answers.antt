use Rattle.osc_model.proofs.Soundness.{opening_sound, step_sound, history_sound}
use Rattle.osc_model.proofs.Counted.{history_counted}
use Rattle.osc_model.proofs.laws.a_server_stays_sound.Goals as goal

pub returns-clause-opening : goal.returns-clause-opening
returns-clause-opening c = opening_sound

pub returns-clause-step : goal.returns-clause-step
returns-clause-step c =
    step_sound (record {
      lawful = c.an_added_method_is_lawful.ensures;
      nodes = c.an_address_adds_its_new_nodes.ensures;
      spelled = c.tests_are_exact.ensures.address;
    })

pub returns-clause-after : goal.returns-clause-after
returns-clause-after c =
    history_sound
    (record { lawful = c.an_added_method_is_lawful.ensures; nodes = c.an_address_adds_its_new_nodes.ensures; spelled = c.tests_are_exact.ensures.address })

pub returns-clause-counted : goal.returns-clause-counted
returns-clause-counted c = history_counted
