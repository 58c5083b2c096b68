use Rattle.std.proofs.Common.{List, ℕ, subst}
use Rattle.std.proofs.lemmas.List.{append-nil}
use Rattle.osc_tree.specs.Order.{IsSearched}
use Rattle.osc_tree.specs.Views.{methods_at}
use Rattle.osc_tree.proofs.search.count_before.Goals as goal

pub returns-clause-searched : goal.returns-clause-searched
returns-clause-searched c =
    let at = c.count_before_both.result in
    subst (λ (text : List ℕ). IsSearched text (methods_at c.args.methods.now c.args.places.now) at at) (append-nil c.args.text.now)
    c.count_before_both.ensures.searched
