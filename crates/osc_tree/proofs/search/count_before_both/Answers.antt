use Rattle.std.proofs.Common.{ℕ, ◌++◌, subst}
use Rattle.osc_tree.specs.Order.{IsSearched}
use Rattle.osc_tree.specs.Views.{methods_at}
use Rattle.osc_tree.proofs.Ranges.{searched_none}
use Rattle.osc_tree.proofs.InOrder.{methods_at-length, order_ascends}
use Rattle.osc_tree.proofs.search.count_before_both.Goals as goal

pub count_between-requires-clause-known : goal.count_between-requires-clause-known
count_between-requires-clause-known c =
    let ms = methods_at c.args.methods.now c.args.places.now in
    let text = c.args.text.now ++ c.args.tail.now in
    subst (λ (n : ℕ). IsSearched text ms 0 n) (methods_at-length c.args.methods.now c.args.places.now) (searched_none text ms)

pub count_between-requires-clause-ascending : goal.count_between-requires-clause-ascending
count_between-requires-clause-ascending c = order_ascends c.args.methods.now c.args.places.now c.requires
