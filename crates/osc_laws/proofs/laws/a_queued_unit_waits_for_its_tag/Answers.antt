use Rattle.osc_queue.proofs.Orders.{all_mapped}
use Rattle.osc_model.specs.State.{Queued, opening}
use Rattle.osc_model.specs.History.{after}
use Rattle.osc_laws.proofs.Units.{IsWaiting, units_are}
use Rattle.osc_laws.proofs.laws.a_queued_unit_waits_for_its_tag.Goals as goal

pub returns : goal.returns
returns c caps history legal =
    all_mapped (after (opening caps) history).queue (λ (item : Queued) (is : IsWaiting history item). is.1) (units_are caps history legal)
