use Rattle.std.proofs.Common.{◌≡◌, Bool, false, length, nat_lt, sym, ap, subst, ◌∙◌, arith}
use Rattle.std.specs.Prelude.{MatchBool}
use Rattle.std.specs.Str.{bytes_eq}
use Rattle.std.proofs.lemmas.Bool.Decides.{nat_tests}
use Rattle.osc_tree.specs.Order.{StandsAt}
use Rattle.osc_tree.specs.Registry.{NoneAt}
use Rattle.osc_tree.specs.Views.{methods_of}
use Rattle.osc_tree.proofs.Lookups.{there_is, none_behind}
use Rattle.osc_tree.proofs.lookup.is_there.Goals as goal

pub returns-then-at-places : goal.returns-then-at-places
returns-then-at-places c =
    there_is c.args.methods.now c.args.places.now c.args.at c.args.address.now c.index-methods-places.result c.eq.result c.requires.order
    c.requires.searched c.if-at-places.true
    (c.eq.ensures ∙ ap (λ l. bytes_eq l c.args.address.now) c.bytes.ensures.value)

pub returns-else-at-places : goal.returns-else-at-places
returns-else-at-places c =
    let past = c.if-at-places.false in
    let test : nat_lt c.args.at (length c.args.places.now) ≡ false = grind (arith, nat_tests) in
    subst (λ (t : Bool). MatchBool t (StandsAt c.args.methods.now c.args.places.now c.args.at c.args.address.now)
    (NoneAt (methods_of c.args.methods.now) c.args.address.now)) (sym test)
    (none_behind c.args.methods.now c.args.places.now c.args.at c.args.address.now c.requires.order c.requires.searched past)
