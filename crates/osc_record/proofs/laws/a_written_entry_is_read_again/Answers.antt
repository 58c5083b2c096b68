use Rattle.osc_record.proofs.Again.{entry_in_again}
use Rattle.osc_record.proofs.laws.a_written_entry_is_read_again.Goals as goal

pub returns : goal.returns
returns c = entry_in_again
