use Rattle.osc_message.proofs.TextLaws.{texts_differ}
use Rattle.osc_message.proofs.laws.texts_differ.Goals as goal

pub returns : goal.returns
returns c = texts_differ
