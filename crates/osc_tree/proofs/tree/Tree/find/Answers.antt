-- The methods that match are few, and have their addresses by their ids.
use Rattle.std.proofs.Common.{◌≤◌, List, ℕ, length, sym, subst}
use Rattle.osc_tree.proofs.Found.{few_matching, matching_found}
use Rattle.osc_tree.proofs.tree.Tree.find.Goals as goal

pub returns-clause-named : goal.returns-clause-named
returns-clause-named c =
    matching_found c.args.pattern.now c.args.self.now c.find_in.ensures.lawful
    (c.the_matching_methods_ascend.ensures.exactly c.args.pattern.now c.args.self.now.methods)

pub returns-clause-few : goal.returns-clause-few
returns-clause-few c =
    subst (λ (ids : List ℕ). length ids ≤ c.args.self.now.method_limit) (sym c.find_in.ensures.ids)
    (few_matching c.args.pattern.now c.args.self.now c.find_in.ensures.lawful
    (c.the_matching_methods_ascend.ensures.exactly c.args.pattern.now c.args.self.now.methods))
