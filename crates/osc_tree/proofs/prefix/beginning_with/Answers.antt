use Rattle.std.proofs.Common.{List, ℕ, ◌++◌, ◌∷◌, [], subst}
use Rattle.std.proofs.lemmas.List.{append-nil}
use Rattle.osc_pattern.specs.Methods.{Method}
use Rattle.osc_tree.proofs.InOrder.{methods_at-length, order_ascends}
use Rattle.osc_tree.proofs.Ranges.{searched_none, searched_longer}
use Rattle.osc_tree.specs.Order.{IsSearched}
use Rattle.osc_tree.proofs.Beginnings.{ends_of, ends_in_order, places_between}
use Rattle.osc_tree.specs.Views.{methods_at}
use Rattle.osc_tree.proofs.prefix.beginning_with.Goals as goal

found : (text : List ℕ) (methods : List Method) (at : ℕ) → IsSearched (text ++ []) methods at at → IsSearched text methods at at
found text methods at searched = subst (λ (l : List ℕ). IsSearched l methods at at) (append-nil text) searched

pub count_before_near-first-requires-clause-known : goal.count_before_near-first-requires-clause-known
count_before_near-first-requires-clause-known c =
    let ms = methods_at c.args.methods.now c.args.places.now in
    subst (λ (n : ℕ). IsSearched (c.args.text.now ++ []) ms 0 n) (methods_at-length c.args.methods.now c.args.places.now)
    (searched_none (c.args.text.now ++ []) ms)

pub count_before_near-first-requires-clause-ascending : goal.count_before_near-first-requires-clause-ascending
count_before_near-first-requires-clause-ascending c = order_ascends c.args.methods.now c.args.places.now c.requires.order

pub count_begun-end-requires-clause-known : goal.count_begun-end-requires-clause-known
count_begun-end-requires-clause-known c =
    let ms = methods_at c.args.methods.now c.args.places.now in
    let text = c.args.text.now in
    let first = c.count_before_near-first.result in
    subst (λ (n : ℕ). IsSearched (text ++ 127 ∷ []) ms first n) (methods_at-length c.args.methods.now c.args.places.now)
    (searched_longer text (127 ∷ []) ms first (found text ms first c.count_before_near-first.ensures.searched))

pub count_begun-end-requires-clause-ascending : goal.count_begun-end-requires-clause-ascending
count_begun-end-requires-clause-ascending c = order_ascends c.args.methods.now c.args.places.now c.requires.order

pub slice_bounds-result-count : goal.slice_bounds-result-count
slice_bounds-result-count c =
    ends_in_order c.args.text.now (methods_at c.args.methods.now c.args.places.now) c.count_before_near-first.result c.count_begun-end.result
    (ends_of c.args.text.now c.args.methods.now c.args.places.now c.count_before_near-first.result c.count_begun-end.result c.requires.list c.requires.order
    (found c.args.text.now _ _ c.count_before_near-first.ensures.searched) c.count_begun-end.ensures.searched)

pub slice_bounds-result-start : goal.slice_bounds-result-start
slice_bounds-result-start c =
    ends_in_order c.args.text.now (methods_at c.args.methods.now c.args.places.now) c.count_before_near-first.result c.count_begun-end.result
    (ends_of c.args.text.now c.args.methods.now c.args.places.now c.count_before_near-first.result c.count_begun-end.result c.requires.list c.requires.order
    (found c.args.text.now _ _ c.count_before_near-first.ensures.searched) c.count_begun-end.ensures.searched)

pub returns-clause-those : goal.returns-clause-those
returns-clause-those c =
    places_between c.args.text.now c.args.methods.now c.args.places.now c.count_before_near-first.result c.count_begun-end.result
    (ends_of c.args.text.now c.args.methods.now c.args.places.now c.count_before_near-first.result c.count_begun-end.result c.requires.list c.requires.order
    (found c.args.text.now _ _ c.count_before_near-first.ensures.searched) c.count_begun-end.ensures.searched)
