use Rattle.osc_record.proofs.RowsRead.{hits_back}
use Rattle.osc_record.proofs.laws.whole_hits_are_their_bytes.Goals as goal

pub returns : goal.returns
returns c bytes all whole = (hits_back bytes all whole).0
