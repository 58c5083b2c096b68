use Rattle.osc_stream.proofs.Buffered.{buffered_none}
use Rattle.osc_stream.proofs.buffered_source.BufferedSource.open.Goals as goal

pub returns-clause-left : goal.returns-clause-left
returns-clause-left g c = buffered_none (g.S.Source.left c.args.source)
