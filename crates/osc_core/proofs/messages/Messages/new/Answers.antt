use Rattle.osc_core.proofs.Storing.{framed_few}
use Rattle.osc_core.proofs.messages.Messages.new.Goals as goal

pub returns-clause-few : goal.returns-clause-few
returns-clause-few c = framed_few c.requires
