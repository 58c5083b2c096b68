use Rattle.std.proofs.Common.{rules}
use Rattle.osc_patch.proofs.Apart.{read_is}
use Rattle.osc_patch.proofs.patch.Patch.read.Goals as goal

pub returns-clause-patched : goal.returns-clause-patched
returns-clause-patched c =
    read_is c.args.methods_limit c.args.bytes.now c.in_ok-reading.reading c.methods.result.now c.in_ok-reading.ensures c.methods.ensures (search rules)
