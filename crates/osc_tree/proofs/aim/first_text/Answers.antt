use Rattle.std.proofs.Common.{sym, subst}
use Rattle.osc_pattern.specs.Items.{is_comma}
use Rattle.osc_pattern.proofs.Cutting.{FirstPart, cut_at-part}
use Rattle.osc_tree.proofs.aim.first_text.Goals as goal

pub returns-in-Some-clause-texts : goal.returns-in-Some-clause-texts
returns-in-Some-clause-texts c = (subst (FirstPart is_comma c.args.texts.now) (sym c.in-Some.ensures.cut) (cut_at-part is_comma c.args.texts.now)).0

pub returns-in-None-clause-texts : goal.returns-in-None-clause-texts
returns-in-None-clause-texts c = subst (FirstPart is_comma c.args.texts.now) (sym c.in-None.ensures.cut) (cut_at-part is_comma c.args.texts.now)
