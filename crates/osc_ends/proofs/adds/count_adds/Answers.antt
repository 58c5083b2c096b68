use Rattle.std.proofs.Common.{◌∙◌}
use Rattle.osc_script.proofs.Counts.{counted}
use Rattle.osc_ends.proofs.adds.count_adds.Goals as goal

pub returns : goal.returns
returns c = c.count_adding.ensures ∙ counted c.args.lines.now
