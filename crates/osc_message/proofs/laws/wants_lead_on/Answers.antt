use Rattle.osc_message.proofs.WantLaws.{lead_on}
use Rattle.osc_message.proofs.laws.wants_lead_on.Goals as goal

pub returns : goal.returns
returns c = lead_on
