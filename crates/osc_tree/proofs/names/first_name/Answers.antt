use Rattle.std.proofs.Common.{sym, subst}
use Rattle.osc_pattern.specs.Items.{is_slash}
use Rattle.osc_pattern.proofs.Cutting.{FirstPart, cut_at-part}
use Rattle.osc_tree.proofs.names.first_name.Goals as goal

pub returns-in-Some-clause-names : goal.returns-in-Some-clause-names
returns-in-Some-clause-names c = (subst (FirstPart is_slash c.args.names.now) (sym c.in-Some.ensures.cut) (cut_at-part is_slash c.args.names.now)).0

pub returns-in-None-clause-names : goal.returns-in-None-clause-names
returns-in-None-clause-names c = subst (FirstPart is_slash c.args.names.now) (sym c.in-None.ensures.cut) (cut_at-part is_slash c.args.names.now)
