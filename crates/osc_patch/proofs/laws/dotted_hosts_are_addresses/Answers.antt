use Rattle.osc_patch.proofs.Dotted.{dotted_so}
use Rattle.osc_patch.proofs.laws.dotted_hosts_are_addresses.Goals as goal

pub returns-clause-host : goal.returns-clause-host
returns-clause-host c = dotted_so
