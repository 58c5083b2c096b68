use Rattle.osc_stream.specs.Feeding.{at_start}
use Rattle.osc_stream.proofs.RunLaws.{run_frames, run_packets}
use Rattle.osc_stream.proofs.laws.any_pieces.Goals as goal

pub returns-clause-packets : goal.returns-clause-packets
returns-clause-packets c = λ feeds stream run. run_packets feeds stream run

pub returns-clause-frames : goal.returns-clause-frames
returns-clause-frames c = λ feeds stream more run. run_frames feeds at_start stream more run
