use Rattle.osc_model.specs.State.{opening}
use Rattle.osc_model.specs.History.{invocations}
use Rattle.osc_stage.proofs.Sending.{all_short, sends_all}
use Rattle.osc_stage.proofs.laws.what_was_sent_is_what_the_history_called.Goals as goal

pub returns : goal.returns
returns c caps history told address room sent losses legal hears few has =
    let made = invocations (opening caps) history in
    sends_all c.what_was_sent_is_what_was_called.ensures.each c.what_was_sent_is_what_was_called.ensures.all made told address room sent losses
    (all_short c.a_server_stays_sound.ensures.after caps history legal made (c.invocations_are_of_registered_methods.ensures.history (opening caps) history))
    hears few has
