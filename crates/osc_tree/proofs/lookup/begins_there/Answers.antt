use Rattle.std.proofs.Common.{◌≡◌, false, length, nat_eq, nat_lt, sym, ap, ◌∙◌, arith}
use Rattle.std.specs.List.{starts_with}
use Rattle.std.proofs.lemmas.Bool.Decides.{nat_tests}
use Rattle.osc_tree.specs.Views.{methods_at}
use Rattle.osc_tree.proofs.InOrder.{methods_at-length}
use Rattle.osc_tree.proofs.Lookups.{begun_there}
use Rattle.osc_tree.proofs.Searches.{begins_past}
use Rattle.osc_tree.proofs.lookup.begins_there.Goals as goal

pub returns-then-at-places : goal.returns-then-at-places
returns-then-at-places c =
    c.starts_with.ensures.value
    ∙ ap (λ l. starts_with nat_eq l c.args.text.now) c.bytes.ensures.value
    ∙ begun_there c.args.methods.now c.args.places.now c.args.at c.args.text.now c.index-methods-places.result c.requires.order c.requires.searched
    c.if-at-places.true

pub returns-else-at-places : goal.returns-else-at-places
returns-else-at-places c =
    let past = c.if-at-places.false in
    let test : nat_lt c.args.at (length c.args.places.now) ≡ false = grind (arith, nat_tests) in
    let long = methods_at-length c.args.methods.now c.args.places.now in
    test ∙ sym (begins_past c.args.text.now (methods_at c.args.methods.now c.args.places.now) c.args.at c.requires.searched (omega arith))
