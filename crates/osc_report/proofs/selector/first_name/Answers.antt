use Rattle.std.proofs.Common.{[], sym, subst}
use Rattle.std.specs.List.{slice_split}
use Rattle.osc_pattern.specs.Items.{is_slash}
use Rattle.osc_pattern.proofs.Cutting.{FirstPart, cut_at-part}
use Rattle.osc_report.proofs.selector.first_name.Goals as goal

pub returns-in-Some-clause-pieces : goal.returns-in-Some-clause-pieces
returns-in-Some-clause-pieces c =
    (subst (FirstPart is_slash c.args.names.now) (sym c.in-Some.ensures.cut) (cut_at-part is_slash c.args.names.now)).0

pub returns-in-Some-clause-first : goal.returns-in-Some-clause-first
returns-in-Some-clause-first c = (
  slice_split is_slash c.in-Some.rest.now,
  (subst (FirstPart is_slash c.args.names.now) (sym c.in-Some.ensures.cut) (cut_at-part is_slash c.args.names.now)).0,
)

pub returns-in-None-clause-pieces : goal.returns-in-None-clause-pieces
returns-in-None-clause-pieces c = subst (FirstPart is_slash c.args.names.now) (sym c.in-None.ensures.cut) (cut_at-part is_slash c.args.names.now)

pub returns-in-None-clause-first : goal.returns-in-None-clause-first
returns-in-None-clause-first c =
    ([], subst (FirstPart is_slash c.args.names.now) (sym c.in-None.ensures.cut) (cut_at-part is_slash c.args.names.now))
