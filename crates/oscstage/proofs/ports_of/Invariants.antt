use Rattle.std.proofs.Common.{◌≡◌, length}
use Rattle.oscstage.proofs.ports_of.Given as goal

abbrev pub invariant-loop-link : goal.invariant-loop-link
invariant-loop-link l = length l.ports.items ≡ l.link
