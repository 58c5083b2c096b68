use Rattle.std.proofs.Common.{◌-◌, drop, get_or, sym, ap, ◌∙◌, arith}
use Rattle.std.specs.List.{slice_split}
use Rattle.osc_pattern.specs.Items.{is_slash}
use Rattle.osc_pattern.specs.Methods.{Method}
use Rattle.osc_pattern.specs.Patterns.{parts_of}
use Rattle.osc_tree.specs.Views.{method_at, methods_at}
use Rattle.osc_tree.specs.Walking.{shared}
use Rattle.osc_tree.proofs.Alike.{shared_turn}
use Rattle.osc_tree.proofs.Fronts.{begun_here}
use Rattle.osc_tree.proofs.InOrder.{methods_at-length}
use Rattle.osc_tree.proofs.Walks.{method_here, known_is, neighbours_differ}
use Rattle.osc_tree.proofs.agreement.known_at.Goals as goal

pub shared_front-requires-clause-first : goal.shared_front-requires-clause-first
shared_front-requires-clause-first c =
    let registered = c.args.methods.now in
    let places = c.args.places.now in
    let d = method_at registered 0 in
    let one = method_here registered places (c.args.at - 1) c.index-methods-places.result d c.requires.within (omega arith) c.index-methods-places.is in
    (neighbours_differ registered places c.args.at d _ _ c.requires.sorted (omega arith) c.requires.at c.requires.names
    (c.names_of.ensures.parts ∙ ap (λ (m : Method). parts_of m.address) (sym one))).0

pub shared_front-requires-clause-second : goal.shared_front-requires-clause-second
shared_front-requires-clause-second c =
    let registered = c.args.methods.now in
    let places = c.args.places.now in
    let d = method_at registered 0 in
    let one = method_here registered places (c.args.at - 1) c.index-methods-places.result d c.requires.within (omega arith) c.index-methods-places.is in
    (neighbours_differ registered places c.args.at d _ _ c.requires.sorted (omega arith) c.requires.at c.requires.names
    (c.names_of.ensures.parts ∙ ap (λ (m : Method). parts_of m.address) (sym one))).1

pub returns-clause-count : goal.returns-clause-count
returns-clause-count c =
    let registered = c.args.methods.now in
    let places = c.args.places.now in
    let at = c.args.at in
    let d = method_at registered 0 in
    let one = method_here registered places (at - 1) c.index-methods-places.result d c.requires.within (omega arith) c.index-methods-places.is in
    c.shared_front.ensures.count
    ∙ shared_turn (slice_split is_slash c.args.names.now) (slice_split is_slash c.names_of.result.now)
    ∙ ap (λ l. shared l (slice_split is_slash c.args.names.now)) (c.names_of.ensures.parts ∙ ap (λ (m : Method). parts_of m.address) (sym one))
    ∙ ap (shared (parts_of (get_or (methods_at registered places) (at - 1) d).address)) c.requires.names
    ∙ sym (known_is (methods_at registered places) at d (omega arith))

pub shared_front-requires-clause-known : goal.shared_front-requires-clause-known
shared_front-requires-clause-known c =
    let registered = c.args.methods.now in
    let places = c.args.places.now in
    let d = method_at registered 0 in
    let long = methods_at-length registered places in
    let one = method_here registered places (c.args.at - 1) c.index-methods-places.result d c.requires.within (omega arith) c.index-methods-places.is in
    begun_here c.args.front.names c.args.front.bytes c.args.names.now c.names_of.result.now c.requires.bytes
    (c.names_of.ensures.bytes ∙ ap (λ (m : Method). drop 1 m.address) (sym one))
    (c.requires.front c.args.at (c.args.at - 1) d (omega arith) (omega arith))
