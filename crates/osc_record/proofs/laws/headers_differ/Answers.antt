use Rattle.osc_record.proofs.Readings as readings
use Rattle.osc_record.proofs.laws.headers_differ.Goals as goal

pub returns : goal.returns
returns c = readings.headers_differ
