use Rattle.osc_record.proofs.Hits.{hits_count}
use Rattle.std.proofs.Common.{sym}
use Rattle.osc_record.proofs.sized_entry.hits.Goals as goal

pub returns-in-Released : goal.returns-in-Released
returns-in-Released c = rw c.in-Released.is (sym (hits_count c.in-Released.hits.now))
