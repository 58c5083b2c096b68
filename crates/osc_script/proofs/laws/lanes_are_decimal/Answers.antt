use Rattle.osc_script.proofs.Modes.{lane_again, lane_written}
use Rattle.osc_script.proofs.laws.lanes_are_decimal.Goals as goal

pub returns : goal.returns
returns c = record { written = lane_again; read = lane_written }
