use Rattle.std.proofs.Common.{◌∙◌, ap}
use Rattle.osc_atoms.specs.Atoms.{has_no_zero}
use Rattle.osc_message.proofs.MessageLaws.{nonzero_tags}
use Rattle.osc_record.specs.Shown.{listed}
use Rattle.osc_record.proofs.message.append_message.Goals as goal

pub append_string-requires-2-clause-no_zero : goal.append_string-requires-2-clause-no_zero
append_string-requires-2-clause-no_zero c = ap has_no_zero c.requires.tags ∙ nonzero_tags (listed c.args.args.now)
