use Rattle.std.proofs.Common.{sym}
use Rattle.osc_record.proofs.Hits.{hits_count}
use Rattle.osc_print.proofs.entry.hit_count.Goals as goal

pub returns : goal.returns
returns c = sym (hits_count c.args.hits.now)
