use Rattle.osc_uses.proofs.Playing.{played_bytes}
use Rattle.osc_uses.proofs.refused_packet.submit_bytes.Goals as goal

pub returns-clause-performance : goal.returns-clause-performance
returns-clause-performance g c = played_bytes c.args.core.now.performance _ _ c.args.bytes.now c.submit.ensures.performance c.in_ok-packet.ensures.ok
