use Rattle.std.proofs.Common.{sym, ◌∙◌, rules}
use Rattle.osc_tree.proofs.Onward.{none_between, lower_self}
use Rattle.osc_tree.proofs.Ranges.{lower_order}
use Rattle.osc_tree.proofs.aim.nearer.Goals as goal

pub returns-then-not-is_lt-clause-nearer : goal.returns-then-not-is_lt-clause-nearer
returns-then-not-is_lt-clause-nearer c = lower_self c.args.aim.now

pub returns-then-not-is_lt-clause-reach : goal.returns-then-not-is_lt-clause-reach
returns-then-not-is_lt-clause-reach c =
    λ other first last later. none_between other c.args.rest.now _ c.args.aim.now (sym c.is_within.ensures ∙ c.if-is_within.false) later last

pub returns-then-is_lt-clause-nearer : goal.returns-then-is_lt-clause-nearer
returns-then-is_lt-clause-nearer c = lower_order.one_way c.args.text.now c.args.aim.now (search rules)

pub returns-clause-nearer : goal.returns-clause-nearer
returns-clause-nearer c = lower_self c.args.aim.now

pub returns-clause-reach : goal.returns-clause-reach
returns-clause-reach c = λ other first last later. lower_order.chain other c.args.text.now c.args.aim.now first (search rules)
