use Rattle.osc_message.proofs.Checks.{begins_is}
use Rattle.osc_message.proofs.laws.messages_begin_with_a_slash.Goals as goal

pub returns : goal.returns
returns c = begins_is
