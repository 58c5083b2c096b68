use Rattle.std.proofs.Common.{sym, ◌∙◌}
use Rattle.osc_tree.proofs.agreement.matches_name.Goals as goal

pub returns-then-is_star-clause-test : goal.returns-then-is_star-clause-test
returns-then-is_star-clause-test g c =
    sym (sym (c.requires.found.same c.args.name.now) ∙ c.is_star.ensures c.if-is_star.true c.args.name.now)
