use Rattle.std.proofs.Common.{sym, arith}
use Rattle.std.proofs.lemmas.List.{take_all, length-take}
use Rattle.osc_message.proofs.argument_bytes.nameable.Goals as goal

pub returns-then-bytes-clause-bytes : goal.returns-then-bytes-clause-bytes
returns-then-bytes-clause-bytes c = sym (take_all 4294967296 c.args.bytes.now (omega (arith, c.if-bytes.true)))

pub returns-else-bytes-clause-few : goal.returns-else-bytes-clause-few
returns-else-bytes-clause-few c = omega (arith, length-take 4294967296 c.args.bytes.now)
