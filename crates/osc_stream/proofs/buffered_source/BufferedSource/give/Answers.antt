use Rattle.std.proofs.Common.{arith}
use Rattle.osc_stream.proofs.Buffered.{held_given}
use Rattle.osc_stream.proofs.buffered_source.BufferedSource.give.Goals as goal

pub returns-clause-held : goal.returns-clause-held
returns-clause-held g c = let s = c.args.self.now in
    held_given s.start s.end c.min-count.result s.space.items (omega (arith, c.min-count.ensures, c.deref.ensures.len))
