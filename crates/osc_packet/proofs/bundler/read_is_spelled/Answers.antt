use Rattle.std.proofs.Common.{rules}
use Rattle.osc_packet.proofs.Bundlings.{spelled_is}
use Rattle.osc_packet.proofs.bundler.read_is_spelled.Goals as goal

pub returns : goal.returns
returns c = spelled_is c.of_messages.ensures c.args.bytes.now (search rules) c.requires
