use Rattle.std.proofs.Common.{length, ap, sym, ◌∙◌}
use Rattle.osc_tree.proofs.Onward.{one_piece, none_between, low_end}
use Rattle.osc_tree.proofs.aim.aim_before.Goals as goal

pub returns-then-is_lt-clause-one : goal.returns-then-is_lt-clause-one
returns-then-is_lt-clause-one c = ap length (one_piece c.args.text.now c.requires.one)

pub returns-clause-reach : goal.returns-clause-reach
returns-clause-reach c =
    λ other first last later. none_between other c.args.rest.now _ _ (sym c.is_within.ensures ∙ c.if-is_within.false) later last

pub returns-clause-ahead : goal.returns-clause-ahead
returns-clause-ahead c = low_end c.args.rest.now c.requires.low
