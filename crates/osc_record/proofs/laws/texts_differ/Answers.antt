use Rattle.osc_record.proofs.Readings as readings
use Rattle.osc_record.proofs.laws.texts_differ.Goals as goal

pub returns : goal.returns
returns c = readings.texts_differ
