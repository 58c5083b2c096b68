use Rattle.std.proofs.Common.{◌≡◌, filter, map, take, ap, ◌∙◌, arith}
use Rattle.std.proofs.lemmas.List.{take_all}
use Rattle.osc_pattern.specs.Methods.{Method}
use Rattle.osc_pattern.specs.Patterns.{matches}
use Rattle.osc_tree.specs.Views.{methods_at}
use Rattle.osc_tree.specs.Walking.{most_steps}
use Rattle.osc_tree.proofs.InOrder.{methods_at-length}
use Rattle.osc_tree.proofs.Walks.{walked_few}
use Rattle.osc_tree.proofs.course.walk_found.Goals as goal

pub returns-clause-ids : goal.returns-clause-ids
returns-clause-ids g c =
    let walk = c.args.walk.now in
    let near = methods_at walk.methods.now walk.places.now in
    let all : take c.loop-at.at near ≡ near =
    take_all c.loop-at.at near (omega (arith, methods_at-length walk.methods.now walk.places.now, c.loop-at-test.false)) in
    c.loop-at.invariant.walked.found
    ∙ ap (λ l. map (λ (method : Method). method.id) (filter (λ method. matches walk.pattern.now method.address) l)) all

pub returns-clause-len : goal.returns-clause-len
returns-clause-len g c =
    let walk = c.args.walk.now in
    let near = methods_at walk.methods.now walk.places.now in
    let few = walked_few walk.pattern.now near c.loop-at.at c.loop-at.ids.items c.loop-at.invariant.walked in
    let bound = c.loop-at.invariant.walked.bound in
    omega (arith, methods_at-length walk.methods.now walk.places.now)

pub returns-clause-bounded : goal.returns-clause-bounded
returns-clause-bounded g c =
    let walk = c.args.walk.now in
    let near = methods_at walk.methods.now walk.places.now in
    let all : take c.loop-at.at near ≡ near =
    take_all c.loop-at.at near (omega (arith, methods_at-length walk.methods.now walk.places.now, c.loop-at-test.false)) in
    omega (arith, c.loop-at.invariant.bounded, ap (most_steps walk.pattern.now) all)
