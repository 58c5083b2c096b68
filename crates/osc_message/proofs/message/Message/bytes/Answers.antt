use Rattle.osc_message.proofs.Readable.{readable_message}
use Rattle.osc_message.proofs.message.Message.bytes.Goals as goal

pub returns-clause-message : goal.returns-clause-message
returns-clause-message c = rw (← c.self.view_is) (readable_message _ _ c.self.invariant.0)
