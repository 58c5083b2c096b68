use Rattle.osc_stream.proofs.Written.{written_frames}
use Rattle.osc_stream.proofs.laws.written_packets.Goals as goal

pub returns : goal.returns
returns c = λ packets rest lawful. written_frames packets rest lawful
