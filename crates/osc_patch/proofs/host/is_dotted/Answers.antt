use Rattle.std.proofs.Common.{◌∙◌}
use Rattle.osc_patch.proofs.Dotted.{parsed}
use Rattle.osc_patch.proofs.host.is_dotted.Goals as goal

pub returns : goal.returns
returns c = c.is_ok.ensures.value ∙ parsed c.args.word.now c.parse_ascii.result c.parse_ascii.ensures
