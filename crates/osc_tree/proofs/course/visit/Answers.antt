use Rattle.std.proofs.Common.{◌≡◌, ℕ, suc, ◌<◌, ◌∷◌, [], length, drop, get_or, sym, ap, ◌∙◌, arith}
use Rattle.std.specs.List.{slice_split}
use Rattle.osc_pattern.specs.Items.{is_slash}
use Rattle.osc_pattern.specs.Methods.{Method}
use Rattle.osc_pattern.specs.Patterns.{parts_of}
use Rattle.osc_tree.specs.Views.{method_at, methods_at}
use Rattle.osc_tree.specs.Walking.{spent, known_at}
use Rattle.osc_tree.proofs.Advances.{slash_names}
use Rattle.osc_tree.proofs.Beginnings.{address_low}
use Rattle.osc_tree.proofs.Charges.{charged, further}
use Rattle.osc_tree.proofs.InOrder.{methods_at-length}
use Rattle.osc_tree.proofs.Onward.{low_behind}
use Rattle.osc_tree.proofs.Walks.{method_here}
use Rattle.osc_tree.proofs.course.visit.Goals as goal

pub known_at-known-requires-clause-names : goal.known_at-known-requires-clause-names
known_at-known-requires-clause-names g c =
    let walk = c.args.walk.now in
    let registered = walk.methods.now in
    let places = walk.places.now in
    let at = c.args.at in
    let ms = methods_at registered places in
    let d = method_at registered 0 in
    let here = method_here registered places at c.index-methods-places.result d c.requires.set.within c.requires.at c.index-methods-places.is in
    c.names_of-names.ensures.parts ∙ ap (λ (m : Method). parts_of m.address) (sym here)

pub known_at-known-requires-clause-bytes : goal.known_at-known-requires-clause-bytes
known_at-known-requires-clause-bytes g c =
    let walk = c.args.walk.now in
    let registered = walk.methods.now in
    let places = walk.places.now in
    let at = c.args.at in
    let ms = methods_at registered places in
    let d = method_at registered 0 in
    let here = method_here registered places at c.index-methods-places.result d c.requires.set.within c.requires.at c.index-methods-places.is in
    c.names_of-names.ensures.bytes ∙ ap (λ (m : Method). drop 1 m.address) (sym here)

pub go_on-requires-clause-tried : goal.go_on-requires-clause-tried
go_on-requires-clause-tried g c =
    let walk = c.args.walk.now in
    let registered = walk.methods.now in
    let places = walk.places.now in
    let at = c.args.at in
    let ms = methods_at registered places in
    let d = method_at registered 0 in
    let here = method_here registered places at c.index-methods-places.result d c.requires.set.within c.requires.at c.index-methods-places.is in
    let names = c.names_of-names.result.now in
    let address = c.index-methods-places.result.address in
    let slashed = slash_names address names c.names_of-names.ensures.lawful.slash c.names_of-names.ensures.bytes in
    record {
      within = omega (arith, methods_at-length registered places, c.requires.at);
      own = λ e. ap (λ (m : Method). m.address) (method_here registered places at c.index-methods-places.result e c.requires.set.within c.requires.at
          c.index-methods-places.is) ∙ sym c.bytes.ensures.value;
      slash = c.bytes.ensures.value ∙ slashed;
      low = low_behind (47 ∷ []) names address slashed (address_low address c.names_of-names.ensures.lawful);
      count = c.count_matching-agreement.ensures.count;
    }

pub go_on-requires-clause-id : goal.go_on-requires-clause-id
go_on-requires-clause-id g c =
    let walk = c.args.walk.now in
    λ e. sym (ap (λ (m : Method). m.id) (method_here walk.methods.now walk.places.now c.args.at c.index-methods-places.result e c.requires.set.within
    c.requires.at
    c.index-methods-places.is))

pub returns-clause-bounded : goal.returns-clause-bounded
returns-clause-bounded g c =
    let walk = c.args.walk.now in
    let registered = walk.methods.now in
    let places = walk.places.now in
    let at = c.args.at in
    let ms = methods_at registered places in
    let d = method_at registered 0 in
    let here = method_here registered places at c.index-methods-places.result d c.requires.set.within c.requires.at c.index-methods-places.is in
    let within : at < length ms = omega (arith, methods_at-length registered places, c.requires.at) in
    let names : slice_split is_slash c.names_of-names.result.now ≡ parts_of (get_or ms at d).address =
    c.names_of-names.ensures.parts ∙ ap (λ (m : Method). parts_of m.address) (sym here) in
    let spends : spent c.known_at-known.result.names (parts_of walk.pattern.now) (slice_split is_slash c.names_of-names.result.now)
    ≡ spent (known_at ms at d) (parts_of walk.pattern.now) (parts_of (get_or ms at d).address) =
    ap (λ (n : ℕ). spent n (parts_of walk.pattern.now) (slice_split is_slash c.names_of-names.result.now)) c.known_at-known.ensures.count
    ∙ ap (spent (known_at ms at d) (parts_of walk.pattern.now)) names in
    let most = charged walk.pattern.now ms at d c.requires.set.sorted within in
    let on = c.go_on.ensures.on in
    let more = further walk.pattern.now ms (suc at) c.go_on.result.0 (omega arith) in
    omega (arith, c.count_matching-agreement.ensures.bounded)
