use Rattle.osc_score.specs.declared.limits.TheConstants.{MAX_SCORE}
use Rattle.osc_ends.proofs.Inputs.{long_refused, read_sound, reads_whole}
use Rattle.osc_ends.proofs.score_input.read_score.Goals as goal

pub returns-in-Whole-clause-input : goal.returns-in-Whole-clause-input
returns-in-Whole-clause-input g c =
    let read = c.in-Whole.ensures in
    reads_whole g.S.Source MAX_SCORE _ _ _ c.in-Whole.bytes.items (read_sound c.read_notes.result c.read_notes.ensures.known) read.0 read.1 read.2

pub returns-in-TooLong-clause-refused : goal.returns-in-TooLong-clause-refused
returns-in-TooLong-clause-refused g c =
    long_refused MAX_SCORE c.refuse_long.result _ _ _ c.refuse_long.ensures.known c.in-TooLong.ensures.0
    (λ all long one. c.refuse_long.ensures.refused all long one)
