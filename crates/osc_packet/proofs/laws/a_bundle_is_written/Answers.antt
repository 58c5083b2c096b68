use Rattle.osc_packet.proofs.Bundlings.{text_is}
use Rattle.osc_packet.proofs.laws.a_bundle_is_written.Goals as goal

pub returns : goal.returns
returns c = text_is
