use Rattle.std.proofs.Common.{arith}
use Rattle.osc_ends.proofs.Transfers.{read_long}
use Rattle.osc_ends.proofs.whole.read_whole.Goals as goal

pub returns : goal.returns
returns g c = (
  read_long c.args.most (g.S.Source.left c.args.input.now) (g.S.Source.left c.loop-input.input) c.loop-input.bytes.items c.loop-input.invariant.read
      (omega arith) c.loop-input.invariant.within,
  c.loop-input.invariant.steady,
)
