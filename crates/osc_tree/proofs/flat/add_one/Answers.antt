use Rattle.std.proofs.Common.{◌≡◌, ◌≤◌, ◌<◌, ◌+◌, ◌++◌, ◌∷◌, [], ℕ, length, take, drop, get_or, map, position, nat_eq, sym, ap, subst, ◌∙◌, arith}
use Rattle.std.specs.List.{ends_with}
use Rattle.std.proofs.lemmas.List.{take_rest}
use Rattle.osc_pattern.specs.Items.{is_slash}
use Rattle.osc_pattern.specs.Methods.{Method}
use Rattle.osc_tree.specs.Order.{IsSearched}
use Rattle.osc_tree.specs.Views.{method_at, methods_at}
use Rattle.osc_tree.proofs.Flats.{node_is, node_ahead, node_searched, node_passed, flat_hit, flat_miss, flat_few}
use Rattle.osc_tree.proofs.InOrder.{methods_at-length}
use Rattle.osc_tree.proofs.Lists.{none_placed}
use Rattle.osc_tree.proofs.Taken.{ahead_of}
use Rattle.osc_tree.proofs.Walks.{method_here}
use Rattle.osc_tree.proofs.flat.add_one.Goals as goal

pub slice_bounds-rest-count : goal.slice_bounds-rest-count
slice_bounds-rest-count c =
    let ms = methods_at c.args.methods.now c.args.near.now in
    let d = method_at c.args.methods.now 0 in
    let here = method_here c.args.methods.now c.args.near.now c.args.at c.index-methods-near.result d c.requires.within c.requires.at c.index-methods-near.is in
    let long = c.requires.long c.args.at d (omega (arith, methods_at-length c.args.methods.now c.args.near.now, c.requires.at)) in
    omega (arith, ap (λ (m : Method). length m.address) here, ap length c.bytes-address.ensures.value)

pub slice_bounds-rest-start : goal.slice_bounds-rest-start
slice_bounds-rest-start c =
    let ms = methods_at c.args.methods.now c.args.near.now in
    let d = method_at c.args.methods.now 0 in
    let here = method_here c.args.methods.now c.args.near.now c.args.at c.index-methods-near.result d c.requires.within c.requires.at c.index-methods-near.is in
    let long = c.requires.long c.args.at d (omega (arith, methods_at-length c.args.methods.now c.args.near.now, c.requires.at)) in
    let le : c.args.flat.now.from ≤ length c.bytes-address.result.now =
    omega (arith, ap (λ (m : Method). length m.address) here, ap length c.bytes-address.ensures.value) in
    le

pub add_id-requires : goal.add_id-requires
add_id-requires c =
    let ms = methods_at c.args.methods.now c.args.near.now in
    let few = flat_few ms c.args.at c.args.flat.now.from c.args.flat.now.tail.now c.args.ids.now.items
    (omega (arith, methods_at-length c.args.methods.now c.args.near.now, c.requires.at)) c.requires.found in
    omega (arith, c.requires.room, c.requires.at)

pub returns-else-not-has_tail-clause-found : goal.returns-else-not-has_tail-clause-found
returns-else-not-has_tail-clause-found c =
    let ms = methods_at c.args.methods.now c.args.near.now in
    let d = method_at c.args.methods.now 0 in
    let here = method_here c.args.methods.now c.args.near.now c.args.at c.index-methods-near.result d c.requires.within c.requires.at c.index-methods-near.is in
    let none = none_placed is_slash (drop c.args.flat.now.from (get_or ms c.args.at d).address)
    (ap (λ (m : Method). position is_slash (drop c.args.flat.now.from m.address)) here
    ∙ ap (λ l. position is_slash (drop c.args.flat.now.from l)) (sym c.bytes-address.ensures.value)
    ∙ ap (position is_slash) (sym (take_rest c.bytes-address.result.now c.args.flat.now.from)) ∙ sym c.first_slash.ensures ∙ c.in-None.is) in
    let ends = ap (λ (m : Method). ends_with nat_eq (drop c.args.flat.now.from m.address) c.args.flat.now.tail.now) here
    ∙ ap (λ l. ends_with nat_eq (drop c.args.flat.now.from l) c.args.flat.now.tail.now) (sym c.bytes-address.ensures.value)
    ∙ ap (λ l. ends_with nat_eq l c.args.flat.now.tail.now) (sym (take_rest c.bytes-address.result.now c.args.flat.now.from))
    ∙ sym c.has_tail.ensures ∙ c.if-not-has_tail.false in
    flat_hit ms c.args.at c.args.flat.now.from c.index-methods-near.result.id c.args.flat.now.tail.now c.args.ids.now.items c.add_id.new.ids.items d
    (omega (arith, methods_at-length c.args.methods.now c.args.near.now, c.requires.at)) none ends (sym (ap (λ (m : Method). m.id) here)) c.requires.found
    c.add_id.ensures.ids

pub returns-then-not-has_tail-clause-found : goal.returns-then-not-has_tail-clause-found
returns-then-not-has_tail-clause-found c =
    let ms = methods_at c.args.methods.now c.args.near.now in
    let d = method_at c.args.methods.now 0 in
    let here = method_here c.args.methods.now c.args.near.now c.args.at c.index-methods-near.result d c.requires.within c.requires.at c.index-methods-near.is in
    let ends = ap (λ (m : Method). ends_with nat_eq (drop c.args.flat.now.from m.address) c.args.flat.now.tail.now) here
    ∙ ap (λ l. ends_with nat_eq (drop c.args.flat.now.from l) c.args.flat.now.tail.now) (sym c.bytes-address.ensures.value)
    ∙ ap (λ l. ends_with nat_eq l c.args.flat.now.tail.now) (sym (take_rest c.bytes-address.result.now c.args.flat.now.from))
    ∙ sym c.has_tail.ensures ∙ c.if-not-has_tail.true in
    c.requires.found
    ∙ ap (map (λ (method : Method). method.id))
    (sym (flat_miss ms c.args.at c.args.flat.now.from c.args.flat.now.tail.now d
    (omega (arith, methods_at-length c.args.methods.now c.args.near.now, c.requires.at)) ends))

pub count_before_near-next-requires-clause-known : goal.count_before_near-next-requires-clause-known
count_before_near-next-requires-clause-known c =
    let ms = methods_at c.args.methods.now c.args.near.now in
    let d = method_at c.args.methods.now 0 in
    let address = c.bytes-address.result.now in
    let here = method_here c.args.methods.now c.args.near.now c.args.at c.index-methods-near.result d c.requires.within c.requires.at c.index-methods-near.is in
    let within : c.args.at < length ms = omega (arith, methods_at-length c.args.methods.now c.args.near.now, c.requires.at) in
    let own : (get_or ms c.args.at d).address ≡ address = ap (λ (m : Method). m.address) here ∙ sym c.bytes-address.ensures.value in
    let le : c.args.flat.now.from ≤ length address = omega (arith, c.requires.long c.args.at d within, ap length own) in
    let node = node_is address c.args.flat.now.from c.in-Some.size le
    (ap (position is_slash) (sym (take_rest address c.args.flat.now.from)) ∙ sym c.first_slash.ensures ∙ c.in-Some.is) in
    subst (λ (n : ℕ). IsSearched (take (c.args.flat.now.from + c.in-Some.size) address ++ 48 ∷ []) ms (c.args.at + 1) n)
    (methods_at-length c.args.methods.now c.args.near.now)
    (node_searched ms c.args.at (take (c.args.flat.now.from + c.in-Some.size) address) _ d c.requires.sorted within (own ∙ node.0))

pub returns-in-Some-clause-on : goal.returns-in-Some-clause-on
returns-in-Some-clause-on c =
    let ms = methods_at c.args.methods.now c.args.near.now in
    let d = method_at c.args.methods.now 0 in
    let address = c.bytes-address.result.now in
    let here = method_here c.args.methods.now c.args.near.now c.args.at c.index-methods-near.result d c.requires.within c.requires.at c.index-methods-near.is in
    let within : c.args.at < length ms = omega (arith, methods_at-length c.args.methods.now c.args.near.now, c.requires.at) in
    let own : (get_or ms c.args.at d).address ≡ address = ap (λ (m : Method). m.address) here ∙ sym c.bytes-address.ensures.value in
    let le : c.args.flat.now.from ≤ length address = omega (arith, c.requires.long c.args.at d within, ap length own) in
    let node = node_is address c.args.flat.now.from c.in-Some.size le
    (ap (position is_slash) (sym (take_rest address c.args.flat.now.from)) ∙ sym c.first_slash.ensures ∙ c.in-Some.is) in
    ahead_of ms c.args.at c.count_before_near-next.result d (take (c.args.flat.now.from + c.in-Some.size) address ++ 48 ∷ []) within
    (node_ahead (get_or ms c.args.at d).address (take (c.args.flat.now.from + c.in-Some.size) address) _ (own ∙ node.0))
    c.count_before_near-next.ensures.searched

pub returns-in-Some-clause-found : goal.returns-in-Some-clause-found
returns-in-Some-clause-found c =
    let ms = methods_at c.args.methods.now c.args.near.now in
    let d = method_at c.args.methods.now 0 in
    let address = c.bytes-address.result.now in
    let here = method_here c.args.methods.now c.args.near.now c.args.at c.index-methods-near.result d c.requires.within c.requires.at c.index-methods-near.is in
    let within : c.args.at < length ms = omega (arith, methods_at-length c.args.methods.now c.args.near.now, c.requires.at) in
    let own : (get_or ms c.args.at d).address ≡ address = ap (λ (m : Method). m.address) here ∙ sym c.bytes-address.ensures.value in
    let le : c.args.flat.now.from ≤ length address = omega (arith, c.requires.long c.args.at d within, ap length own) in
    let node = node_is address c.args.flat.now.from c.in-Some.size le
    (ap (position is_slash) (sym (take_rest address c.args.flat.now.from)) ∙ sym c.first_slash.ensures ∙ c.in-Some.is) in
    let on = ahead_of ms c.args.at c.count_before_near-next.result d (take (c.args.flat.now.from + c.in-Some.size) address ++ 48 ∷ []) within
    (node_ahead (get_or ms c.args.at d).address (take (c.args.flat.now.from + c.in-Some.size) address) _ (own ∙ node.0))
    c.count_before_near-next.ensures.searched in
    c.requires.found
    ∙ ap (map (λ (method : Method). method.id))
    (sym (node_passed ms c.args.at c.count_before_near-next.result c.args.flat.now.from c.args.flat.now.tail.now
    (take (c.args.flat.now.from + c.in-Some.size) address) _ d c.requires.sorted within
    node.1 (own ∙ node.0) c.count_before_near-next.ensures.searched on))
