use Rattle.std.proofs.Common.{◌≡◌, length}
use Rattle.oscstage.proofs.show.datagram_links.Given as goal

abbrev pub invariant-loop-port : goal.invariant-loop-port
invariant-loop-port l = length l.links.items ≡ l.port-index
