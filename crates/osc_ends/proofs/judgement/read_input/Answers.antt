use Rattle.osc_ends.specs.Judging.{IsReadOf}
use Rattle.osc_ends.specs.declared.judgement.Whole.TheVariants.{TooLong}
use Rattle.osc_ends.proofs.Inputs.{long_bytes}
use Rattle.osc_ends.proofs.judgement.read_input.Goals as goal

pub returns-in-TooLong-clause-bytes : goal.returns-in-TooLong-clause-bytes
returns-in-TooLong-clause-bytes g c =
    long_bytes c.args.most (g.S.Source.left c.args.input.now) _ (IsReadOf c.args.most TooLong) c.in-TooLong.ensures.0 (λ all long. long)
