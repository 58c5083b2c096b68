use Rattle.std.proofs.Common.{sym}
use Rattle.osc_record.proofs.Hits.{hits_count}
use Rattle.osc_replay.proofs.counts.whole_hits.Goals as goal

pub returns-clause-value : goal.returns-clause-value
returns-clause-value c = sym (hits_count c.args.hits.now)
