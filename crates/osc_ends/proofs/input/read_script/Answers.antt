use Rattle.osc_script.specs.declared.script.TheConstants.{MAX_SCRIPT}
use Rattle.osc_ends.proofs.Inputs.{long_refused, read_sound, reads_whole}
use Rattle.osc_ends.proofs.input.read_script.Goals as goal

pub returns-in-Whole-clause-input : goal.returns-in-Whole-clause-input
returns-in-Whole-clause-input g c =
    let read = c.in-Whole.ensures in
    reads_whole g.S.Source MAX_SCRIPT _ _ _ c.in-Whole.bytes.items (read_sound c.read_lines.result c.read_lines.ensures.known) read.0 read.1 read.2

pub returns-in-TooLong-clause-refused : goal.returns-in-TooLong-clause-refused
returns-in-TooLong-clause-refused g c =
    long_refused MAX_SCRIPT c.refuse_long.result _ _ _ c.refuse_long.ensures.known c.in-TooLong.ensures.0
    (λ all long one. c.refuse_long.ensures.refused c.args.mode all long one)
