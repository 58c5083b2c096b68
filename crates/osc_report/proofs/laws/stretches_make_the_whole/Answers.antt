use Rattle.osc_report.proofs.Joining.{stretch_joins}
use Rattle.osc_report.proofs.laws.stretches_make_the_whole.Goals as goal

pub returns : goal.returns
returns c = λ options standing old between now entries others before mid after.
    stretch_joins options standing old entries others before mid after between now
