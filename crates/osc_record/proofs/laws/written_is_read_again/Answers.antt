use Rattle.osc_record.specs.declared.version.Version.TheVariants.{Second}
use Rattle.osc_record.proofs.Readings.{record_again}
use Rattle.osc_record.proofs.laws.written_is_read_again.Goals as goal

pub returns : goal.returns
returns c = record_again Second
