use Rattle.osc_carry.proofs.Bounds.{size_few}
use Rattle.osc_model.specs.State.{opening}
use Rattle.osc_model.specs.History.{after}
use Rattle.osc_carry.proofs.laws.carrying_is_small.Goals as goal

pub returns : goal.returns
returns c caps history legal =
    size_few (after (opening caps) history) ((c.a_server_stays_sound.ensures.after caps history legal).methods).list
