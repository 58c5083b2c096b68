use Rattle.std.proofs.Common.{sym, ◌∙◌}
use Rattle.osc_tree.proofs.Onward.{none_taken, special_aims, plain_aims}
use Rattle.osc_tree.proofs.aim.find_aim.Goals as goal

pub returns-in_default-clause-aim : goal.returns-in_default-clause-aim
returns-in_default-clause-aim c =
    plain_aims c.args.part.now c.args.rest.now c.aim_before.result (sym c.first_special.ensures ∙ c.in_default.is) c.requires.one
    c.aim_before.ensures.kept c.aim_before.ensures.ahead c.aim_before.ensures.one c.aim_before.ensures.reach

pub aim_before-requires-2-clause-one : goal.aim_before-requires-2-clause-one
aim_before-requires-2-clause-one c = none_taken c.args.part.now c.in-Some.end c.requires.one

pub returns-clause-aim : goal.returns-clause-aim
returns-clause-aim c =
    special_aims c.args.part.now c.args.rest.now c.in-Some.end c.aim_before-2.result (sym c.first_special.ensures ∙ c.in-Some.is) c.requires.one
    c.aim_before-2.ensures.kept c.aim_before-2.ensures.ahead c.aim_before-2.ensures.one c.aim_before-2.ensures.reach
