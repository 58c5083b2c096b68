use Rattle.std.proofs.Common.{rules}
use Rattle.osc_patch.proofs.Ports.{none_told}
use Rattle.osc_patch.proofs.port.port_of.Goals as goal

pub returns-in-Err : goal.returns-in-Err
returns-in-Err c = none_told c.args.word.now (search rules) c.in-Err.ensures.cases.0
