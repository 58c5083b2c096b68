-- An unknown tag is found where there is one.
use Rattle.std.proofs.Common.{◌∙◌, ap}
use Rattle.std.specs.Prelude.{is_some}
use Rattle.osc_message.specs.Tags.{is_unknown}
use Rattle.osc_message.proofs.UnknownTags.{some_found}
use Rattle.osc_message.proofs.tags.first_unknown.Goals as goal

pub returns-clause-any : goal.returns-clause-any
returns-clause-any c = ap is_some c.find_unknown.ensures ∙ some_found is_unknown c.args.tags.now
