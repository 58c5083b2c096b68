use Rattle.osc_script.proofs.Modes.{no_lane, bare_lane, after_lane}
use Rattle.osc_script.proofs.laws.lanes_come_first.Goals as goal

pub returns : goal.returns
returns c = record { lane = no_lane; bare = bare_lane; later = after_lane }
