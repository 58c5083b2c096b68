use Rattle.std.proofs.Common.{arith}
use Rattle.osc_model.specs.Limits.{max_recording}
use Rattle.osc_ends.proofs.Inputs.{long_refused, reads_whole}
use Rattle.osc_ends.proofs.input.read_recording.Goals as goal

pub returns-in-Whole-clause-input : goal.returns-in-Whole-clause-input
returns-in-Whole-clause-input g c =
    let read = c.in-Whole.ensures in
    reads_whole g.S.Source max_recording 0 _ _ c.in-Whole.bytes.items (λ four. omega (arith, four)) read.0 read.1 read.2

pub returns-in-TooLong-clause-refused : goal.returns-in-TooLong-clause-refused
returns-in-TooLong-clause-refused g c =
    long_refused max_recording c.malformed.result _ _ _ c.malformed.ensures.known c.in-TooLong.ensures.0
    (λ all long one. (long, c.malformed.ensures.written one))
