use Rattle.std.proofs.Common.{ℕ, ◌+◌, ◌++◌, ◌∷◌, [], sym, subst, arith}
use Rattle.osc_tree.specs.Order.{IsSearched}
use Rattle.osc_tree.specs.Views.{method_at, methods_at}
use Rattle.osc_tree.specs.Walking.{IsWalked}
use Rattle.osc_tree.proofs.InOrder.{methods_at-length}
use Rattle.osc_tree.proofs.Taken.{below_searched, end_searched, end_further, walked_below}
use Rattle.osc_tree.proofs.Walks.{walked_few}
use Rattle.osc_tree.proofs.course.take_below.Goals as goal

pub count_before_near-next-requires-clause-known : goal.count_before_near-next-requires-clause-known
count_before_near-next-requires-clause-known c =
    let walk = c.args.walk.now in
    let ms = methods_at walk.methods.now walk.places.now in
    subst (λ (n : ℕ). IsSearched (c.args.text.now ++ c.args.plain.now) ms (c.args.at + 1) n) (methods_at-length walk.methods.now walk.places.now)
    (below_searched walk.pattern.now ms c.args.at walk.wild c.args.text.now c.args.plain.now (method_at walk.methods.now 0) c.requires.below
    c.requires.set.sorted)

pub count_before_near-end-requires-clause-known : goal.count_before_near-end-requires-clause-known
count_before_near-end-requires-clause-known c =
    let walk = c.args.walk.now in
    let ms = methods_at walk.methods.now walk.places.now in
    subst (λ (n : ℕ). IsSearched (c.args.text.now ++ 127 ∷ []) ms (c.args.at + 1) n) (methods_at-length walk.methods.now walk.places.now)
    (end_searched walk.pattern.now ms c.args.at walk.wild c.args.text.now c.args.plain.now (method_at walk.methods.now 0) c.requires.below
    c.requires.set.sorted)

pub add_spelled_at-requires-clause-room : goal.add_spelled_at-requires-clause-room
add_spelled_at-requires-clause-room c =
    let walk = c.args.walk.now in
    let ms = methods_at walk.methods.now walk.places.now in
    let few = walked_few walk.pattern.now ms c.args.at c.args.ids.now.items c.requires.walked in
    let within = c.requires.below.within in
    omega (arith, c.requires.room, methods_at-length walk.methods.now walk.places.now)

pub returns-clause-on : goal.returns-clause-on
returns-clause-on c =
    let walk = c.args.walk.now in
    let ms = methods_at walk.methods.now walk.places.now in
    end_further walk.pattern.now ms c.args.at walk.wild c.count_before_near-end.result c.args.text.now c.args.plain.now (method_at walk.methods.now 0)
    c.requires.below
    c.count_before_near-end.ensures.searched

pub returns-clause-walked : goal.returns-clause-walked
returns-clause-walked c =
    let walk = c.args.walk.now in
    let ms = methods_at walk.methods.now walk.places.now in
    subst (IsWalked walk.pattern.now ms c.count_before_near-end.result) (sym c.add_spelled_at.ensures.ids)
    (walked_below walk.pattern.now ms c.args.at walk.wild c.count_before_near-next.result c.count_before_near-end.result c.args.text.now c.args.plain.now
    c.args.ids.now.items c.requires.below c.requires.set.plain c.requires.set.sorted c.count_before_near-next.ensures.searched
    c.count_before_near-end.ensures.searched c.requires.walked)
