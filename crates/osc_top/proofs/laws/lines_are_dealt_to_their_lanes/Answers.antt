use Rattle.std.proofs.Common.{refl}
use Rattle.osc_script.specs.Acts.{act_of}
use Rattle.osc_pattern.specs.Reading.{read_part}
use Rattle.osc_top.proofs.laws.lines_are_dealt_to_their_lanes.Goals as goal

pub returns : goal.returns
unfolding act_of read_part
returns c = refl
