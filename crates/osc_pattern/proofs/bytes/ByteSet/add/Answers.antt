use Rattle.std.proofs.Common.{arith, rules}
use Rattle.osc_pattern.proofs.ReadOnce.{one_added}
use Rattle.osc_pattern.proofs.bytes.ByteSet.add.Goals as goal

pub returns : goal.returns
returns c = one_added c.args.self.now.words c.args.byte (search rules) (omega (arith, c.ranges.byte))
